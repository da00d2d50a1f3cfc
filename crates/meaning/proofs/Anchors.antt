-- What the definitions compute, by computation from them alone, so that a wrong one is refused here first, because a fact is false. `starred`:
-- every starred roast that is an event run comes out as document 01 has it; `on_the_way_law`, `partial_held_law`, `mixed_held_law`, `thrice_held_law` and `full`
-- are further cases about room and about what is held, `disjuncts_ordered` is their order; `fixed_unbound` is what fixed places bind, `fixed_each`
-- what they ask; `unconcerned` and `exchanged` are cases that the declarative meaning and demand 3 rule out, `independent` and `crossing` one that
-- demand 3 covers.
use mathlib.Core.Path.{◌≡◌, refl}
use mathlib.Core.Bool.{Bool, true, false, ◌&&◌, ◌||◌, false≢true}
use mathlib.Core.List.{List, [], ◌∷◌, ◌++◌, map}
use Prim.Native.Nat.{Ordering}
use Prim.Native.Nat.{ℕ, zero, suc, ◌-◌, ◌<◌, compare}
use native.Mathlib.Omega.{arith}
use borrow.Author.Tests.{eqb-true}
use lib.Dec.{eqb}
use lib.ListN.{length, get_or, replicate}
use Rattle.laws.specs.Bits.{bit, join, meet, single}
use Rattle.laws.specs.Lists.{any, all, keep, numbers}
use Rattle.laws.specs.Order.{lex, ascending}
use Rattle.laws.proofs.Order.{lt_compare, compare_order, first_differing, begun_before, lex_order}
use Rattle.pattern.specs.Regex.{lit, cat, opt, plus}
use Rattle.meaning.specs.Events.{Symbol, Event, ignored, names, fixed, never, demands, matches, constraint_of, well_formed, is_valuation, holds, concerns}
use Rattle.meaning.specs.Meaning.{Tracematch, no_event, Row}
use Rattle.meaning.specs.Book.{Book, book_of, binds, bound_in, is_proper, sound_symbol, positions, begins_at, ends_at}
use Rattle.meaning.specs.Labels.{bound, free, Disjunct, Held, value_key, exclusions, is_free, entry_of, label_of, held_at, compare_disjuncts}
use Rattle.meaning.specs.Labels.{skip_by, sources, step_set, skip_set, new_label, new_held}
use Rattle.meaning.specs.Room.{set_room, room}
use Rattle.meaning.specs.Rows.{rows, compare_valuations, value_of}
use Rattle.runs.specs.Pairs.{Pairing}
use Rattle.meaning.specs.Runs.{Call, held_after, Dependent, Ordered}
use Rattle.meaning.specs.Starred.{Case, Answer, answers, table, on_the_way, unnamed_on_the_way, partial, partial_calls, partial_held}
use Rattle.meaning.specs.Starred.{mixed, mixed_calls, mixed_held, thrice, thrice_calls, thrice_held}

abbrev pub outcome : Case → Bool × Bool × List Answer
outcome c = (is_proper c.tracematch, all well_formed c.events, answers (book_of c.tracematch) [] c.events)

abbrev pub wanted : Case → Bool × Bool × List Answer
wanted c = (true, true, c.expected)

pub starred : map outcome table ≡ map wanted table
unfolding bit join meet single matches constraint_of well_formed book_of is_proper sound_symbol compare_disjuncts skip_by sources step_set skip_set new_label
    new_held set_room room rows table
starred = refl

pub on_the_way_law : outcome on_the_way ≡ wanted on_the_way
unfolding bit join meet single matches constraint_of well_formed book_of is_proper sound_symbol compare_disjuncts skip_by sources step_set skip_set new_label
    new_held set_room room rows on_the_way
on_the_way_law = refl

pub unnamed_on_the_way_law : outcome unnamed_on_the_way ≡ wanted unnamed_on_the_way
unfolding bit join meet single matches constraint_of well_formed book_of is_proper sound_symbol compare_disjuncts skip_by sources step_set skip_set new_label
    new_held set_room room rows unnamed_on_the_way
unnamed_on_the_way_law = refl

pub partial_held_law : held_after partial partial_calls ≡ partial_held
unfolding bit join single matches constraint_of book_of compare_disjuncts skip_by sources step_set skip_set new_label new_held
partial_held_law = refl

pub mixed_held_law : held_after mixed mixed_calls ≡ mixed_held
unfolding bit join single matches constraint_of book_of compare_disjuncts skip_by sources step_set skip_set new_label new_held
mixed_held_law = refl

pub thrice_held_law : held_after thrice thrice_calls ≡ thrice_held
unfolding bit join single matches constraint_of book_of compare_disjuncts skip_by sources step_set skip_set new_label new_held
thrice_held_law = refl

-- "exceeds 128": a set of 128 disjuncts has room, one of 129 has none
pub full : (set_room (replicate 128 []) ≡ true) × (set_room (replicate 129 []) ≡ false)
unfolding set_room
full = (refl, refl)

-- "by values (a free variable before any value), then by exclusion lists, a list before any that it begins": all values, from the first variable
-- on, before any exclusion; lists by their first difference, however long
pub disjuncts_ordered : ascending compare_disjuncts
    ((free (9 ∷ []) ∷ bound 2 ∷ []) ∷ (free [] ∷ bound 3 ∷ []) ∷ (free (1 ∷ 2 ∷ []) ∷ bound 3 ∷ []) ∷ (free (2 ∷ []) ∷ bound 3 ∷ [])
    ∷ (bound 1 ∷ free [] ∷ []) ∷ (bound 1 ∷ bound 9 ∷ []) ∷ (bound 2 ∷ bound 5 ∷ []) ∷ [])
    ≡ true
unfolding compare_disjuncts
disjuncts_ordered = refl

-- no value before a free variable, no larger value before a smaller one, no list before one that it goes on from
pub disjuncts_turned : map (ascending compare_disjuncts)
    (((bound 5 ∷ []) ∷ (free [] ∷ []) ∷ []) ∷ ((bound 5 ∷ []) ∷ (free (7 ∷ []) ∷ []) ∷ []) ∷ ((bound 5 ∷ free [] ∷ []) ∷ (bound 4 ∷ bound 9 ∷ []) ∷ [])
    ∷ ((free (1 ∷ 2 ∷ []) ∷ []) ∷ (free (1 ∷ []) ∷ []) ∷ []) ∷ ((free (2 ∷ []) ∷ []) ∷ (free (1 ∷ 3 ∷ []) ∷ []) ∷ []) ∷ [])
    ≡ replicate 5 false
unfolding compare_disjuncts
disjuncts_turned = refl

-- what is held after b(3), a(9), b(2) of `vars s d`, a 1 s, b 2 d, c 3 d s, `match a? b c`: what comes last stands first, and second
pub before_held : held_after
    (record {
      variables = 2;
      symbols = record { kind = 1; parameters = names 0 ∷ [] } ∷ record { kind = 2; parameters = names 1 ∷ [] }
          ∷ record { kind = 3; parameters = names 1 ∷ names 0 ∷ [] } ∷ [];
      pattern = cat (opt (lit 0)) (cat (lit 1) (lit 2));
    })
    (Call.event (record { kind = 2; args = 3 ∷ [] }) true ∷ Call.event (record { kind = 1; args = 9 ∷ [] }) true
    ∷ Call.event (record { kind = 2; args = 2 ∷ [] }) true ∷ [])
    ≡ held_at 1 (bound 9 ∷ free (2 ∷ []) ∷ []) ∷ held_at 2 (free [] ∷ bound 2 ∷ []) ∷ held_at 2 (free (9 ∷ []) ∷ bound 3 ∷ [])
    ∷ held_at 2 (bound 9 ∷ bound 2 ∷ []) ∷ []
unfolding bit join single matches constraint_of book_of compare_disjuncts skip_by sources step_set skip_set new_label new_held
before_held = refl

-- a fixed place binds nothing: with `vars d`, `sym a 1 =0`, `match a` a word leaves d unbound
pub fixed_unbound :
    (is_proper (record { variables = 1; symbols = record { kind = 1; parameters = fixed 0 ∷ [] } ∷ []; pattern = lit 0 }) ≡ false)
    × (bound_in (fixed 0 ∷ names 2 ∷ fixed 1 ∷ []) ≡ 4)
    × (map (λ v. any (binds v) (fixed 0 ∷ names 2 ∷ fixed 1 ∷ [])) (numbers 0 4) ≡ false ∷ false ∷ true ∷ false ∷ [])
unfolding bit join meet single is_proper sound_symbol
fixed_unbound = (refl, refl, refl)

-- `sym a 1 _ =3 d =4`: each fixed place has its own argument, wherever it stands
pub fixed_each : let s : Symbol = record { kind = 1; parameters = ignored ∷ fixed 3 ∷ names 0 ∷ fixed 4 ∷ [] } in
    let of : List ℕ → Event = λ xs. record { kind = 1; args = xs } in
    let sent : List (List ℕ) = (9 ∷ 3 ∷ 7 ∷ 4 ∷ []) ∷ (9 ∷ 4 ∷ 7 ∷ 4 ∷ []) ∷ (9 ∷ 3 ∷ 7 ∷ 3 ∷ []) ∷ (9 ∷ 4 ∷ 7 ∷ 3 ∷ []) ∷ (3 ∷ 4 ∷ 7 ∷ 4 ∷ []) ∷ [] in
    (map (λ xs. constraint_of s (of xs)) sent ≡ demands (record { variable = 0; value = 7 } ∷ []) ∷ replicate 4 never)
    × (map (λ xs. holds s (of xs) (7 ∷ [])) sent ≡ true ∷ replicate 4 false)
unfolding matches constraint_of holds
fixed_each = (refl, refl)

-- `vars d`, `sym a 1 d`, `match a`, and its event with argument x
abbrev once : Tracematch
once = record { variables = 1; symbols = record { kind = 1; parameters = names 0 ∷ [] } ∷ []; pattern = lit 0 }

abbrev one : ℕ → Event
one x = record { kind = 1; args = x ∷ [] }

-- "the valuations that the event concerns": a(5) was a match for d = 5, and a(6) behind it makes no row of it again
pub unconcerned : Row once (one 5 ∷ one 6 ∷ []) 2 (5 ∷ []) → ⊥
unfolding holds concerns
unconcerned r = false≢true r.concerned

-- "dependent ones in the same order": two that concern d = 5 are not exchanged
pub exchanged : (p : Pairing no_event (one 5 ∷ one 5 ∷ []) (one 5 ∷ one 5 ∷ [])) → p.to 0 ≡ 1 → p.to 1 ≡ 0
    → Ordered no_event (λ e. e) once (one 5 ∷ one 5 ∷ []) (one 5 ∷ one 5 ∷ []) p → ⊥
unfolding is_valuation holds concerns
exchanged p e f o =
    let k = o.keeps 0 1 (omega arith) (omega arith) (record { common = 5 ∷ []; valuation = refl; first = refl; second = refl }) in
    omega (arith, e, f, k)

-- "Two events concern a common valuation if some one valuation is concerned by both": a(5) and a(6) do not
holding : (b : Bool) → ((b && true) || false) ≡ true → b ≡ true
holding true h = refl
holding false h = h

pub independent : Dependent once (one 5) (one 6) → ⊥
unfolding holds concerns
independent d =
    let five = eqb-true (get_or d.common 0 0) 5 (holding _ d.first) in
    let six = eqb-true (get_or d.common 0 0) 6 (holding _ d.second) in
    omega arith

-- so they may be exchanged
abbrev swap : Pairing no_event (one 5 ∷ one 6 ∷ []) (one 6 ∷ one 5 ∷ [])
swap =
    record {
      to = λ i. 1 - i;
      back = λ i. 1 - i;
      to_inside = λ i h. omega arith;
      back_inside = λ i h. omega arith;
      back_to = λ i h. omega arith;
      to_back = λ i h. omega arith;
      same = alike;
    }
  where
    alike : (i : ℕ) → i < 2 → get_or (one 6 ∷ one 5 ∷ []) (1 - i) no_event ≡ get_or (one 5 ∷ one 6 ∷ []) i no_event
    alike zero h = refl
    alike (suc zero) h = refl
    alike (suc (suc i)) h = absurd (omega arith)

pub crossing : Ordered no_event (λ e. e) once (one 5 ∷ one 6 ∷ []) (one 6 ∷ one 5 ∷ []) swap
crossing = record { keeps = keeps }
  where
    keeps : (i j : ℕ) → i < j → j < 2
        → Dependent once (get_or (one 5 ∷ one 6 ∷ []) i no_event) (get_or (one 5 ∷ one 6 ∷ []) j no_event) → 1 - i < 1 - j
    keeps zero (suc zero) h k d = absurd (independent d)
    keeps zero zero h k d = absurd (omega arith)
    keeps zero (suc (suc j)) h k d = absurd (omega arith)
    keeps (suc i) j h k d = absurd (omega arith)

-- "the event's argument count equals the symbol's", also where what is more is zero and what is missing is ignored; an ignored argument is
-- any, zero too: `a 1 d _` under d = 5
pub counts_equal : map (λ xs. holds (record { kind = 1; parameters = names 0 ∷ ignored ∷ [] }) (record { kind = 1; args = xs }) (5 ∷ []))
    ((5 ∷ 0 ∷ []) ∷ (5 ∷ 9 ∷ []) ∷ (5 ∷ []) ∷ (5 ∷ 9 ∷ 0 ∷ []) ∷ (6 ∷ 9 ∷ []) ∷ [])
    ≡ true ∷ true ∷ false ∷ false ∷ false ∷ []
unfolding holds
counts_equal = refl

-- the same of a symbol without ARGS: no argument, and none else
pub none_given : map (λ xs. holds (record { kind = 1; parameters = [] }) (record { kind = 1; args = xs }) []) ([] ∷ (0 ∷ []) ∷ (7 ∷ 8 ∷ []) ∷ [])
    ≡ true ∷ false ∷ false ∷ []
unfolding holds
none_given = refl

-- "then by values …, then by exclusion lists", for all disjuncts: the values decide, and where they are the same the exclusion lists do
pub values_first : (D E : Disjunct) → lex compare (map value_key D) (map value_key E) ≡ Ordering.lt → compare_disjuncts D E ≡ Ordering.lt
unfolding compare_disjuncts
values_first D E h = rw h

pub lists_next : (D E : Disjunct) → lex compare (map value_key D) (map value_key E) ≡ Ordering.eq
    → compare_disjuncts D E ≡ lex (lex compare) (map exclusions D) (map exclusions E)
unfolding compare_disjuncts
lists_next D E h = rw h

-- the first variable's value decides before it matters which of the further variables are free; "a free variable before any value"
pub smaller_first : (a b : ℕ) (D E : Disjunct) → a < b → compare_disjuncts (bound a ∷ D) (bound b ∷ E) ≡ Ordering.lt
smaller_first a b D E h = values_first (bound a ∷ D) (bound b ∷ E) (rw (lt_compare (suc a) (suc b) (omega arith)))

pub free_first : (xs : List ℕ) (b : ℕ) (D E : Disjunct) → compare_disjuncts (free xs ∷ D) (bound b ∷ E) ≡ Ordering.lt
free_first xs b D E = values_first (free xs ∷ D) (bound b ∷ E) (rw (lt_compare 0 (suc b) (omega arith)))

-- what is held after a(9), b(1), b(2) of `vars d s`, a 1 s, b 2 d, c 3 d s, `match a? b c`: d = 1 before d = 2, whether s is free or not
pub alternate_held : held_after
    (record {
      variables = 2;
      symbols = record { kind = 1; parameters = names 1 ∷ [] } ∷ record { kind = 2; parameters = names 0 ∷ [] }
          ∷ record { kind = 3; parameters = names 0 ∷ names 1 ∷ [] } ∷ [];
      pattern = cat (opt (lit 0)) (cat (lit 1) (lit 2));
    })
    (Call.event (record { kind = 1; args = 9 ∷ [] }) true ∷ Call.event (record { kind = 2; args = 1 ∷ [] }) true
    ∷ Call.event (record { kind = 2; args = 2 ∷ [] }) true ∷ [])
    ≡ held_at 1 (free (1 ∷ 2 ∷ []) ∷ bound 9 ∷ []) ∷ held_at 2 (bound 1 ∷ free [] ∷ []) ∷ held_at 2 (bound 1 ∷ bound 9 ∷ [])
    ∷ held_at 2 (bound 2 ∷ free [] ∷ []) ∷ held_at 2 (bound 2 ∷ bound 9 ∷ []) ∷ []
unfolding bit join single matches constraint_of book_of compare_disjuncts skip_by sources step_set skip_set new_label new_held
alternate_held = refl

-- "Rows of one event ascend by the first differing value; the comparison recurses on the variables left": for any number of variables, whatever
-- stands before and behind
pub row_order : (p x y : List ℕ) (a b : ℕ) → a < b → compare_valuations (p ++ (a ∷ x)) (p ++ (b ∷ y)) ≡ Ordering.lt
row_order p x y a b h = first_differing compare_order p x y a b (lt_compare a b h)

-- the same of disjuncts: "then by values …", "then by exclusion lists, a list before any that it begins", variable by variable from the first
pub exclusion_order : (p x y : List (List ℕ)) (q u v : List ℕ) (a b : ℕ) → a < b
    → lex (lex compare) (p ++ ((q ++ (a ∷ u)) ∷ x)) (p ++ ((q ++ (b ∷ v)) ∷ y)) ≡ Ordering.lt
exclusion_order p x y q u v a b h =
    first_differing (lex_order compare_order) p x y (q ++ (a ∷ u)) (q ++ (b ∷ v)) (first_differing compare_order q u v a b (lt_compare a b h))

pub shorter_first : (p x y : List (List ℕ)) (q v : List ℕ) (b : ℕ) → lex (lex compare) (p ++ (q ∷ x)) (p ++ ((q ++ (b ∷ v)) ∷ y)) ≡ Ordering.lt
shorter_first p x y q v b = first_differing (lex_order compare_order) p x y q (q ++ (b ∷ v)) (begun_before compare_order q v b)

-- "taken through all symbols in declaration order": what is held after c(), a(1,7) of `vars d s`, a 1 d s, b 1 d s, c 2, `match c a`. The constraint of
-- b, which is that of a, meets none of the two disjuncts that a has left, though it met the old label's: each is kept as it is
pub past_each : held_after
    (record {
      variables = 2;
      symbols = record { kind = 1; parameters = names 0 ∷ names 1 ∷ [] } ∷ record { kind = 1; parameters = names 0 ∷ names 1 ∷ [] }
          ∷ record { kind = 2; parameters = [] } ∷ [];
      pattern = cat (lit 2) (lit 0);
    })
    (Call.event (record { kind = 2; args = [] }) true ∷ Call.event (record { kind = 1; args = 1 ∷ 7 ∷ [] }) true ∷ [])
    ≡ held_at 1 (free [] ∷ free (7 ∷ []) ∷ []) ∷ held_at 1 (free (1 ∷ []) ∷ free [] ∷ []) ∷ []
unfolding bit join single matches constraint_of book_of compare_disjuncts skip_by sources step_set skip_set new_label new_held
past_each = refl

-- "in declaration order": the same with b 1 d _. The constraint of b takes what that of a has left, so one disjunct excludes both values; b first would
-- leave one
pub in_order : held_after
    (record {
      variables = 2;
      symbols = record { kind = 1; parameters = names 0 ∷ names 1 ∷ [] } ∷ record { kind = 1; parameters = names 0 ∷ ignored ∷ [] }
          ∷ record { kind = 2; parameters = [] } ∷ [];
      pattern = cat (lit 2) (lit 0);
    })
    (Call.event (record { kind = 2; args = [] }) true ∷ Call.event (record { kind = 1; args = 1 ∷ 7 ∷ [] }) true ∷ [])
    ≡ held_at 1 (free (1 ∷ []) ∷ free [] ∷ []) ∷ held_at 1 (free (1 ∷ []) ∷ free (7 ∷ []) ∷ []) ∷ []
unfolding bit join single matches constraint_of book_of compare_disjuncts skip_by sources step_set skip_set new_label new_held
in_order = refl

-- "The step set of q" is a set: what the start, a position and the position itself give alike is one disjunct. `vars d s`, a 1 d s, c 2 d, e 3 d s,
-- `match a? c+ e`, with d = 1 held at the first two positions, and c(1)
pub met_once : step_set
    (book_of (record {
      variables = 2;
      symbols = record { kind = 1; parameters = names 0 ∷ names 1 ∷ [] } ∷ record { kind = 2; parameters = names 0 ∷ [] }
          ∷ record { kind = 3; parameters = names 0 ∷ names 1 ∷ [] } ∷ [];
      pattern = cat (opt (lit 0)) (cat (plus (lit 1)) (lit 2));
    }))
    (held_at 1 (bound 1 ∷ free [] ∷ []) ∷ held_at 2 (bound 1 ∷ free [] ∷ []) ∷ []) (record { kind = 2; args = 1 ∷ [] }) 2
    ≡ (bound 1 ∷ free [] ∷ []) ∷ []
unfolding bit join single matches constraint_of book_of compare_disjuncts sources step_set
met_once = refl

-- The words that `nine_rules`, `twelve_rules`, `skip_rule` and `row_rule` use by name, written out
pub used_words : (b : Book) (held : List Held) (p v a : ℕ) (D : Disjunct) (xs : List ℕ)
    → (positions b ≡ numbers 1 (length b.occurrences)) × (ends_at b p ≡ bit p b.ends)
    × (begins_at b p ≡ bit p b.begins) × (label_of held p ≡ map (λ h. h.disjunct) (keep (λ h. eqb h.position p) held)) × (entry_of D v ≡ get_or D v (free []))
    × (is_free (bound a) ≡ false) × (is_free (free xs) ≡ true) × (exclusions (bound a) ≡ []) × (exclusions (free xs) ≡ xs)
    × (value_key (bound a) ≡ suc a) × (value_key (free xs) ≡ 0) × (value_of (bound a) ≡ a) × (held_at p D ≡ record { position = p; disjunct = D })
used_words b held p v a D xs = (refl, refl, refl, refl, refl, refl, refl, refl, refl, refl, refl, refl, refl)
