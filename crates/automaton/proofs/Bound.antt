-- Every held disjunct has a path behind it whose symbols' variables it binds, so no row leaves a variable free.
use mathlib.Core.Path.{◌≡◌, refl, sym, ap, subst₂, ◌∙◌}
use mathlib.Core.Bool.{Bool, true, false, cond, ◌&&◌, ◌||◌, false≢true, or_comm, or-false}
use mathlib.Core.List.Memᴰ
use mathlib.Core.List.{List, [], ◌∷◌, map, reverse, reverse-cons, Memᴰ}
use mathlib.Core.Logic.{⊎_elim, dite}
use Prim.Native.Nat.{ℕ, suc, ◌<◌}
use native.Mathlib.Decide.{ℕ_discrete}
use native.Mathlib.Omega.{arith}
use lib.Dec.{eqb}
use lib.ListN.{length, get_or, length-set, length-replicate, length-map, get_or-map}
use lib.Seq.{get_or-set_same, get_or-set_other, map-set_same}
use borrow.Author.Tests.{eqb-true}
use Rattle.laws.specs.Bits.{bit}
use Rattle.laws.specs.Lists.{any}
use Rattle.laws.proofs.Lists.{and_true_split, or_true_split, any_append, any_agree, any_false, any_none, mem_keep, mem_index}
use Rattle.pattern.specs.Positions as Positions
use Rattle.pattern.specs.Positions.{Has, Reach, start, next}
use Rattle.pattern.proofs.Masks.{Among, beginning_among, following_among}
use Rattle.meaning.specs.Events.{Parameter, ignored, names, fixed, Symbol, Event, Demand, Constraint, never, demands}
use Rattle.meaning.specs.Events.{matches, demands_of, constraint_of}
use Rattle.meaning.specs.Meaning.{Tracematch, no_symbol}
use Rattle.meaning.specs.Book.{Book, book_of, starting_at, Proper, binds, positions, ends_at, follows_at, symbol_of}
use Rattle.meaning.specs.Labels.{Entry, bound, free, Disjunct, entry_of, is_free, bind, met_all, meets, met}
use Rattle.meaning.specs.Labels.{excluding, skip_one, Held, sources, step_set, skip_set, new_held, fresh_at}
use Rattle.meaning.specs.Rows.{leaves_free}
use Rattle.meaning.specs.Runs.{Call, run, held_after}
use Rattle.meaning.proofs.Holds.{constraint_either}
use Rattle.automaton.proofs.Fits.{met_length}
use Rattle.automaton.proofs.Members.{step_set_member}
use Rattle.automaton.proofs.Stems.{skip_cases, label_held, skip_kept, source_cases, new_cases}
use Rattle.automaton.proofs.Plain.{kept_run}
use Rattle.automaton.proofs.Automaton.{limited, limited_begins, next_by, symbol_of_at, follows_at_bit, spelled}

none_pass : {A : Type 0} (f : A → Bool) (l : List A) → ((x : A) → Memᴰ x l → f x ≡ false) → any f l ≡ false
none_pass f l h = any_agree f (λ x. false) l h ∙ any_false l

any_reverse : {A : Type 0} (f : A → Bool) (l : List A) → any f (reverse l) ≡ any f l
any_reverse f [] = refl
any_reverse f (x ∷ l) = rw (reverse-cons x l, any_append, any_reverse f l, or-false (f x)) (or_comm (any f l) (f x))

-- variable v has a value
abbrev pub has_value : Disjunct → ℕ → Type 0
has_value D v = is_free (entry_of D v) ≡ false

-- meeting binds the variable of a demand, and keeps what is bound
bind_same : (D : Disjunct) (d : Demand) (v : ℕ) → v < length D → v ≡ d.variable → has_value (bind D d) v
bind_same D d v h e = rw (e, get_or-set_same D d.variable (bound d.value) (free []) (omega arith))

bind_keeps : (D : Disjunct) (d : Demand) (v : ℕ) → v < length D → has_value D v → has_value (bind D d) v
bind_keeps D d v h k =
    dite (ℕ_discrete v d.variable) (bind_same D d v h) (λ n. rw (get_or-set_other D d.variable v (bound d.value) (free []) n) k)

met_all_keeps : (ds : List Demand) (D : Disjunct) (v : ℕ) → v < length D → has_value D v → has_value (met_all D ds) v
met_all_keeps [] D v h k = k
met_all_keeps (d ∷ ds) D v h k = met_all_keeps ds (bind D d) v (rw length-set h) (bind_keeps D d v h k)

met_all_binds : (ds : List Demand) (D : Disjunct) (v : ℕ) → v < length D → any (λ d. eqb v d.variable) ds ≡ true → has_value (met_all D ds) v
met_all_binds [] D v h k = absurd (false≢true k)
met_all_binds (d ∷ ds) D v h k =
    let l : v < length (bind D d) = rw length-set h in
    ⊎_elim (λ e. met_all_keeps ds (bind D d) v l (bind_same D d v h (eqb-true v d.variable e))) (met_all_binds ds (bind D d) v l)
    (or_true_split (eqb v d.variable) _ k)

-- the variables that a symbol binds are those of its demands on an event with as many arguments
demands_of_law : (v : ℕ) (ps : List Parameter) (xs : List ℕ) → length ps ≡ length xs → any (λ d. eqb v d.variable) (demands_of ps xs) ≡ any (binds v) ps
demands_of_law v [] xs h = refl
demands_of_law v (p ∷ ps) [] h = absurd (omega arith)
demands_of_law v (ignored ∷ ps) (x ∷ xs) h = demands_of_law v ps xs (omega arith)
demands_of_law v (names u ∷ ps) (x ∷ xs) h = ap (λ t. eqb v u || t) (demands_of_law v ps xs (omega arith))
demands_of_law v (fixed n ∷ ps) (x ∷ xs) h = demands_of_law v ps xs (omega arith)

met_keeps : (c : Constraint) (D : Disjunct) (v : ℕ) → v < length D → has_value D v → has_value (met D c) v
met_keeps never D v h k = k
met_keeps (demands ds) D v h k = met_all_keeps ds D v h k

matches_length : (s : Symbol) (e : Event) → matches s e ≡ true → length s.parameters ≡ length e.args
unfolding matches
matches_length s e h = eqb-true _ _ (and_true_split (eqb s.kind e.kind) _ h).1

met_binds : (s : Symbol) (e : Event) (D : Disjunct) (v : ℕ) → v < length D → meets D (constraint_of s e) ≡ true → any (binds v) s.parameters ≡ true
    → has_value (met D (constraint_of s e)) v
met_binds s e D v h m k =
    constraint_either (λ c. meets D c ≡ true → has_value (met D c) v) s e (λ n. absurd (false≢true n))
    (λ q _. met_all_binds (demands_of s.parameters e.args) D v h (demands_of_law v s.parameters e.args (matches_length s e q) ∙ k)) m

-- past a symbol the same variables are free
excluding_free : (x : Entry) (a : ℕ) → is_free (excluding x a) ≡ is_free x
excluding_free (bound b) a = refl
excluding_free (free xs) a = refl

skip_free : (c : Constraint) (D E : Disjunct) → Memᴰ E (skip_one c D) → map is_free E ≡ map is_free D
skip_free c D E m =
    ⊎_elim (ap (map is_free))
    (λ r. let d = r.0 in rw r.2 (map-set_same is_free D d.variable _ (free []) (excluding_free (entry_of D d.variable) d.value)))
    (skip_cases c D m)

same_value : (D E : Disjunct) → map is_free E ≡ map is_free D → (v : ℕ) → has_value D v → has_value E v
same_value D E e v k = sym (get_or-map is_free E v (free [])) ∙ ap (λ l. get_or l v true) e ∙ get_or-map is_free D v (free []) ∙ k

module _ (tm : Tracematch) where
  -- some symbol of the word binds v
  abbrev pub binds_in : ℕ → List ℕ → Bool
  binds_in v w = any (λ a. any (binds v) (get_or tm.symbols a no_symbol).parameters) w

  -- a path to position p whose symbols' variables have values in D
  pub record Backed (p : ℕ) (D : Disjunct) : Type 0 where
    pub wide : length D ≡ tm.variables
    pub word : List ℕ
    pub path : Reach tm.pattern word p
    pub binding : (v : ℕ) → v < tm.variables → binds_in v word ≡ true → has_value D v

  -- at the end of a path every variable has a value, since the word that the path spells binds it
  backed_closed : {p : ℕ} {D : Disjunct} → Proper tm → Has p (Positions.ending tm.pattern 1) → Backed p D → any is_free D ≡ false
  backed_closed {D = D} ok ends o = none_pass is_free D λ x m.
      let i = mem_index (free []) m in
      let h : i.0 < tm.variables = rw o.wide at i.1 in
      sym (ap is_free i.2) ∙ o.binding i.0 h (sym (any_reverse _ o.word) ∙ ok.binding i.0 h _ (spelled tm o.path ends))

  -- every held disjunct has one
  abbrev pub AllBacked : List Held → Type 0
  AllBacked held = (h : Held) → Memᴰ h held → Backed h.position h.disjunct

  reach_among : {w : List ℕ} {p : ℕ} → Reach tm.pattern w p → Among tm.pattern 1 p
  reach_among {p = p} (start h) = beginning_among tm.pattern 1 p h
  reach_among (next {p = p} {q} r h) = (following_among tm.pattern 1 p q h).1

  -- the book's followers and symbols are the pattern's
  follows_has : {w : List ℕ} {p : ℕ} (q : ℕ) → Reach tm.pattern w p → follows_at (book_of tm) p q ≡ true → Has q (Positions.following tm.pattern 1 p)
  follows_has q r h = rw (follows_at_bit tm (reach_among r) q) at h

  symbol_at_law : {w : List ℕ} {q : ℕ} → Reach tm.pattern w q → symbol_of (book_of tm) q ≡ get_or tm.symbols (Positions.symbol_at tm.pattern 1 q) no_symbol
  symbol_at_law r = symbol_of_at tm (reach_among r)

  -- the book, or the same with fewer beginning positions
  module _ (m : ℕ) (fewer : (q : ℕ) → bit q m ≡ true → Has q (Positions.beginning tm.pattern 1)) (held : List Held) (backed : AllBacked held)
      (e : Event) where
    abbrev fewer_book : Book
    fewer_book = starting_at m (book_of tm)

    -- a path to q that goes on from one behind D is behind D met with the constraint of q's symbol
    step_on : (q : ℕ) (w : List ℕ) (D : Disjunct) → Reach tm.pattern (Positions.symbol_at tm.pattern 1 q ∷ w) q → length D ≡ tm.variables
        → ((v : ℕ) → v < tm.variables → binds_in v w ≡ true → has_value D v) → meets D (constraint_of (symbol_of (book_of tm) q) e) ≡ true
        → Backed q (met D (constraint_of (symbol_of (book_of tm) q) e))
    step_on q w D r l old k = record {
      wide = met_length D (constraint_of (symbol_of (book_of tm) q) e) ∙ l;
      word = Positions.symbol_at tm.pattern 1 q ∷ w;
      path = r;
      binding = λ v h n.
          ⊎_elim (λ x. met_binds (symbol_of (book_of tm) q) e D v (rw l h) k (rw (symbol_at_law r) x))
          (λ x. met_keeps (constraint_of (symbol_of (book_of tm) q) e) D v (rw l h) (old v h x)) (or_true_split _ _ n);
    }

    step_backed : (q : ℕ) (D : Disjunct) → Memᴰ D (sources fewer_book held q) → meets D (constraint_of (symbol_of (book_of tm) q) e) ≡ true
        → Backed q (met D (constraint_of (symbol_of (book_of tm) q) e))
    unfolding book_of
    step_backed q D n k =
        ⊎_elim (λ s. step_on q [] D (start (fewer q s.0)) (ap length s.1 ∙ length-replicate _ _) (λ v h n. absurd (false≢true n)) k)
        (λ s. let o = backed s.0 s.1 in
        step_on q o.word D (next o.path (follows_has q o.path s.2)) (ap length s.3 ∙ o.wide) (rw s.3 o.binding) k)
        (source_cases fewer_book held q n)

    skip_backed : (p : ℕ) (D : Disjunct) → Memᴰ D (skip_set fewer_book held e p) → Backed p D
    skip_backed p =
        skip_kept e (Backed p) (λ s D o E n. let same = skip_free (constraint_of s e) D E n in record {
          wide = sym (length-map E is_free) ∙ ap length same ∙ length-map D is_free ∙ o.wide;
          word = o.word;
          path = o.path;
          binding = λ v h k. same_value D E same v (o.binding v h k);
        }) fewer_book held p (λ D m. let r = label_held held p m in subst₂ Backed r.2 (sym r.3) (backed r.0 r.1))

    new_backed : AllBacked (new_held fewer_book held e)
    new_backed h n =
        ⊎_elim (skip_backed h.position h.disjunct)
        (λ n. let r = (step_set_member fewer_book held e h.position h.disjunct).0 n in rw r.3 (step_backed h.position r.0 r.1 r.2))
        (new_cases fewer_book held e h n).1

    none_free : Proper tm → leaves_free fewer_book held e ≡ false
    unfolding leaves_free book_of
    none_free ok = none_pass _ _ λ q i. none_pass _ _ λ D n. go q D ((mem_keep (ends_at (book_of tm)) q (positions (book_of tm))).0 i).1 n _ refl
      where
        go : (q : ℕ) (D : Disjunct) → ends_at (book_of tm) q ≡ true → Memᴰ D (sources fewer_book held q)
            → (t : Bool) → meets D (constraint_of (symbol_of (book_of tm) q) e) ≡ t → (t && any is_free (met D (constraint_of (symbol_of (book_of tm) q) e))) ≡ false
        go q D ends m false k = refl
        go q D ends m true k = backed_closed ok ends (step_backed q D m k)

-- where fewer events may begin a match
limited_backed : (tm : Tracematch) (may : Bool) (q : ℕ) → bit q (cond may (book_of tm).begins 0) ≡ true → Has q (Positions.beginning tm.pattern 1)
unfolding book_of
limited_backed tm may q h = (limited_begins may (book_of tm).begins q h).1

-- no row of a proper tracematch leaves a variable free, in any run from nothing held, whichever events may begin a match
pub none_left_free_by : (tm : Tracematch) → Proper tm → (may : ℕ → Bool) (n : ℕ) (cs : List Call) (here : Bool) (e : Event)
    → leaves_free (limited here (book_of tm)) (run (next_by may (book_of tm)) (fresh_at n) cs).held e ≡ false
none_left_free_by tm ok may n cs here e =
    none_free tm (cond here (book_of tm).begins 0) (limited_backed tm here) _
    (kept_run (next_by may (book_of tm)) (λ s. AllBacked tm s.held)
    (λ s h f. new_backed tm (cond (may (suc s.number)) (book_of tm).begins 0) (limited_backed tm (may (suc s.number))) s.held h f)
    (fresh_at n) (λ h m. absurd (Memᴰ.not-nil m)) cs)
    e ok

-- the same of the book itself, event by event, from nothing held
pub backed_none : (tm : Tracematch) → AllBacked tm []
backed_none tm h m = absurd (Memᴰ.not-nil m)

pub backed_next : (tm : Tracematch) (held : List Held) → AllBacked tm held → (e : Event) → AllBacked tm (new_held (book_of tm) held e)
backed_next tm held h e = new_backed tm (book_of tm).begins (limited_backed tm true) held h e

pub backed_free : (tm : Tracematch) → Proper tm → (held : List Held) → AllBacked tm held → (e : Event) → leaves_free (book_of tm) held e ≡ false
backed_free tm ok held h e = none_free tm (book_of tm).begins (limited_backed tm true) held h e ok

-- no row of a proper tracematch leaves a variable free, in any run
pub none_left_free : (tm : Tracematch) → Proper tm → (cs : List Call) (e : Event) → leaves_free (book_of tm) (held_after tm cs) e ≡ false
none_left_free tm ok cs e =
    backed_free tm ok (held_after tm cs) (kept_run (new_held (book_of tm)) (AllBacked tm) (backed_next tm) [] (backed_none tm) cs) e

-- then the step sets of ending positions are closed
pub closed : (b : Book) (held : List Held) (e : Event) → leaves_free b held e ≡ false → (q : ℕ) → Memᴰ q (positions b) → ends_at b q ≡ true
    → (D : Disjunct) → Memᴰ D (step_set b held e q) → any is_free D ≡ false
unfolding leaves_free
closed b held e h q m k D d =
    let c = constraint_of (symbol_of b q) e in
    let r = (step_set_member b held e q D).0 d in
    let here : any (λ E. meets E c && any is_free (met E c)) (sources b held q) ≡ false = any_none _ h ((mem_keep (ends_at b) q (positions b)).1 (m, k)) in
    rw r.3 (rw r.2 at (any_none (λ E. meets E c && any is_free (met E c)) here r.1))
