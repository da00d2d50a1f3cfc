-- The reader's course over the words of ARGS.
use mathlib.Core.Path.{◌≡◌, refl, sym, ap, ap₂, ◌∙◌}
use mathlib.Core.Bool.{Bool, true, false, cond, ◌&&◌, ◌||◌, false≢true}
use mathlib.Core.List.{List, [], ◌∷◌, ◌++◌, map, append-nil}
use Prim.Native.Nat.{ℕ, zero, suc, ◌+◌, ◌≤◌}
use native.Mathlib.Omega.{arith}
use borrow.Author.Tests.{eqb-true, eq-eqb, ne_eqb, leb-true, le-leb, ltb-true}
use lib.Dec.{eqb, leb}
use lib.ListN.{length, get_or, drop, length-append}
use lib.Seq.{append_snoc}
use Rattle.laws.specs.Lists.{all}
use Rattle.laws.proofs.Lists.{and_true_split, all_at, mem_get_or}
use Rattle.meaning.specs.Events.{Parameter, ignored, names, fixed}
use Rattle.meaning.specs.Book.{sound_parameter}
use Rattle.form.specs.Limits.{number_limit}
use Rattle.form.specs.Text.{Bytes, space, lf, is_digit, is_name, ignored_word, fixed_sign, decimal, Span, spaced, parameter_word}
use Rattle.form.specs.Form.{same_word, distinct}
use Rattle.form.specs.Scan.{go, word_end, next_word, value, is_number, fixed_number}
use Rattle.form.specs.Lines.{bytes_at, Arguments, argument_fault, argument_of, arguments_from}
use Rattle.parsing.proofs.Scans.{same_word_law}
use Rattle.parsing.proofs.Words.{Word, word_end_law, word_part, is_word, Next, word_next, next_behind, next_inside, byte_inside, gap_ended}
use Rattle.parsing.proofs.Words.{Gap, ended, next, failed, gap}
use Rattle.parsing.proofs.Names.{index_in, known, index_of_law, index_known, get_or_index, index_get_or, known_get_or, all_word, name_word}
use Rattle.parsing.proofs.Names.{is_signed, unsigned, name_unsigned, signed_at, argument_tested}
use Rattle.parsing.proofs.Numerals.{number_read, number_found}
use Rattle.parsing.proofs.VarsLine.{Outcome, fine, faulty, outcome_on, spaced_stops, spaced_first}

-- whether a word may stand among ARGS, and what it stands for
abbrev pub is_argument : List Bytes → Bytes → Bool
is_argument vs w = same_word w ignored_word || cond (is_signed w) (is_number (unsigned w)) (is_name w && known vs w)

abbrev pub parameter_of : List Bytes → Bytes → Parameter
parameter_of vs w =
    let n = fixed (cond (is_number (unsigned w)) (value 0 (unsigned w)) 0) in
    let v = cond (is_signed w) n (names (index_in vs w)) in
    cond (same_word w ignored_word) ignored v

argument_of_law : {s : Bytes} {p : ℕ} {w rest : Bytes} → Word s p w rest → 1 ≤ length w → (xs : List Span)
    → argument_of s xs p (word_end s p) ≡ parameter_of (map (bytes_at s) xs) w
unfolding fixed_number
argument_of_law {s} h some xs =
    let (e, f) = signed_at h some in
    rw (word_part h, e, f, index_of_law s xs)

-- a word of ARGS is that of its parameter
parameter_found : (vs : List Bytes) (w : Bytes) → is_argument vs w ≡ true
    → (parameter_word vs (parameter_of vs w) ≡ w) × (sound_parameter (length vs) (parameter_of vs w) ≡ true)
parameter_found vs w = by (same_word w ignored_word) (is_signed w) refl refl
  where
    signed : (w : Bytes) → is_signed w ≡ true → is_number (unsigned w) ≡ true
        → (fixed_sign ∷ decimal (value 0 (unsigned w)) ≡ w) × (leb (value 0 (unsigned w)) number_limit ≡ true)
    signed [] e h = absurd (false≢true e)
    signed (b ∷ w) e h =
        let (i, l) = number_found w h in
        (ap₂ ◌∷◌ (sym (eqb-true b fixed_sign e)) (sym i), le-leb (value 0 w) number_limit l)

    by : (t u : Bool) → same_word w ignored_word ≡ t → is_signed w ≡ u → (t || cond u (is_number (unsigned w)) (is_name w && known vs w)) ≡ true
        → let a = cond t ignored (cond u (fixed (cond (is_number (unsigned w)) (value 0 (unsigned w)) 0)) (names (index_in vs w))) in
        (parameter_word vs a ≡ w) × (sound_parameter (length vs) a ≡ true)
    by true u e f h = (sym ((same_word_law w ignored_word).0 e), refl)
    by false true e f h = rw h (signed w f h)
    by false false e f h = let k = (and_true_split (is_name w) (known vs w) h).1 in (get_or_index vs w k, index_known vs w ∙ k)

-- a parameter's word is read back
module _ (vs : List Bytes) (named : all is_name vs ≡ true) (d : distinct vs ≡ true) where
  name_not_ignored : (w : Bytes) → is_name w ≡ true → same_word w ignored_word ≡ false
  name_not_ignored w h = by (same_word w ignored_word) refl
    where
      by : (t : Bool) → same_word w ignored_word ≡ t → t ≡ false
      by true e = absurd (false≢true (ap is_name (sym ((same_word_law w ignored_word).0 e)) ∙ h))
      by false e = refl

  parameter_read : (a : Parameter) → sound_parameter (length vs) a ≡ true
      → (is_argument vs (parameter_word vs a) ≡ true) × (parameter_of vs (parameter_word vs a) ≡ a) × (is_word (parameter_word vs a) ≡ true)
  parameter_read ignored h = (refl, refl, refl)
  parameter_read (names v) h =
      let l = ltb-true v (length vs) h in
      let n : is_name (get_or vs v []) ≡ true = all_at is_name named (mem_get_or vs v [] l) in
      let i = name_not_ignored (get_or vs v []) n in
      let u = name_unsigned (get_or vs v []) n in
      (rw (i, u, n) (known_get_or vs v l), rw (i, u) (ap names (index_get_or vs v d l)), name_word (get_or vs v []) n)
  parameter_read (fixed n) h =
      let (k, v, e) = number_read n (leb-true n number_limit h) in
      (k, rw (k, v), all_word is_digit refl refl (decimal n) e)

-- words of ARGS are written from p on, up to the line's end, with room for so many
pub record ArgumentsRead (s : Bytes) (vs : List Bytes) (room p : ℕ) : Type 0 where
  pub parameters : List Parameter
  pub rest : Bytes
  pub text : drop p s ≡ spaced (map (parameter_word vs) parameters) ++ (lf ∷ rest)
  pub sound : all (sound_parameter (length vs)) parameters ≡ true
  pub few : length parameters ≤ room

-- the course over words of ARGS comes to that or to a fault
abbrev pub ArgumentsCourse : Bytes → List Span → List Bytes → ℕ → Type 0
ArgumentsCourse s xs vs room = (ps : List Parameter) (p : ℕ) → p ≤ length s → Outcome s (arguments_from s xs room ps p).step (ArgumentsRead s vs room p)

-- what it gives
made : ℕ → List Parameter → Arguments
made q ps = record { step = go q; parameters = ps }

module _ (s : Bytes) (xs : List Span) (vs : List Bytes) (g : map (bytes_at s) xs ≡ vs) where
  -- past a word of ARGS
  arguments_next : (room : ℕ) (ps : List Parameter) (p : ℕ) (w rest : Bytes) → Next s p w rest → is_argument vs w ≡ true
      → arguments_from s xs (suc room) ps p ≡ arguments_from s xs room (ps ++ (parameter_of vs w ∷ [])) (p + 1 + length w)
  arguments_next room ps p w rest n k =
      let t : is_argument (map (bytes_at s) xs) w ≡ true = rw g k in
      rw (n.goes, argument_tested n.word n.some xs, t, ne_eqb (p + 1) p (λ i. omega arith), argument_of_law n.word n.some xs, word_end_law n.word, g)

  arguments_ended : (room : ℕ) (ps : List Parameter) (p : ℕ) → next_word s p ≡ go p
      → arguments_from s xs room ps p ≡ record { step = go (p + 1); parameters = ps }
  arguments_ended zero ps p e = rw (e, eq-eqb p p refl)
  arguments_ended (suc room) ps p e = rw (e, eq-eqb p p refl)

  -- words of ARGS that are written are read
  pub arguments_read_law : all is_name vs ≡ true → distinct vs ≡ true → (room : ℕ) (ps : List Parameter) (p : ℕ) (cs : List Parameter) (rest : Bytes)
      → drop p s ≡ spaced (map (parameter_word vs) cs) ++ (lf ∷ rest) → all (sound_parameter (length vs)) cs ≡ true → length cs ≤ room
      → arguments_from s xs room ps p ≡ record { step = go (p + length (spaced (map (parameter_word vs) cs)) + 1); parameters = ps ++ cs }
  unfolding made
  arguments_read_law n d room ps p [] rest e h l = arguments_ended room ps p (gap_ended s p rest e) ∙ ap₂ made (omega arith) (sym (append-nil ps))
  arguments_read_law n d zero ps p (a ∷ cs) rest e h l = absurd (omega arith)
  arguments_read_law n d (suc room) ps p (a ∷ cs) rest e h l =
      let m = and_true_split (sound_parameter (length vs) a) (all (sound_parameter (length vs)) cs) h in
      let (k, i, j) = parameter_read vs n d a m.0 in
      let w = parameter_word vs a in
      let ws = map (parameter_word vs) cs in
      let x = word_next s p w (spaced ws ++ (lf ∷ rest)) (e ∙ spaced_first w ws (lf ∷ rest)) j (spaced_stops ws rest) in
      arguments_next room ps p w (spaced ws ++ (lf ∷ rest)) x k ∙ ap (λ b. arguments_from s xs room (ps ++ (b ∷ [])) (p + 1 + length w)) i
      ∙ arguments_read_law n d room (ps ++ (a ∷ [])) (p + 1 + length w) cs rest (next_behind x) m.1 (omega arith)
      ∙ ap₂ made (omega (arith, length-append w (spaced ws))) (append_snoc ps a cs)

  no_arguments : (room p : ℕ) (rest : Bytes) → drop p s ≡ lf ∷ rest → ArgumentsRead s vs room p
  no_arguments room p rest t = record { parameters = []; rest = rest; text = t; sound = refl; few = omega arith }

  arguments_stop : (room : ℕ) (ps : List Parameter) (p : ℕ) (w rest : Bytes) → Next s p w rest → is_argument vs w ≡ false
      → Outcome s (arguments_from s xs (suc room) ps p).step (ArgumentsRead s vs (suc room) p)
  arguments_stop room ps p w rest n k =
      let t : eqb (argument_fault s xs (p + 1) (word_end s (p + 1))) 0 ≡ false = argument_tested n.word n.some xs ∙ rw g k in
      let e : eqb (p + 1) p ≡ false = ne_eqb (p + 1) p (λ i. omega arith) in
      faulty (rw (n.goes, t, e) t) (rw (n.goes, t, e) (byte_inside s p space (w ++ rest) n.text))

  pub arguments_course : (room : ℕ) → ArgumentsCourse s xs vs room
  arguments_course zero ps p l = by (gap s p)
    where
      by : Gap s p → Outcome s (arguments_from s xs 0 ps p).step (ArgumentsRead s vs 0 p)
      by (ended e rest t) = fine (no_arguments 0 p rest t)
      by (next w rest n) =
          let e : eqb (p + 1) p ≡ false = ne_eqb (p + 1) p (λ i. omega arith) in
          faulty (rw (n.goes, e)) (rw (n.goes, e) (byte_inside s p space (w ++ rest) n.text))
      by (failed n e f i) = faulty (rw (e, f)) (rw (e, f) (i l))
  arguments_course (suc room) ps p l = by (arguments_course room) (gap s p)
    where
      by : ArgumentsCourse s xs vs room → Gap s p → Outcome s (arguments_from s xs (suc room) ps p).step (ArgumentsRead s vs (suc room) p)
      by ih (ended e rest t) = fine (no_arguments (suc room) p rest t)
      by ih (next w rest n) = declared (is_argument vs w) refl
        where
          declared : (t : Bool) → is_argument vs w ≡ t → Outcome s (arguments_from s xs (suc room) ps p).step (ArgumentsRead s vs (suc room) p)
          declared true k =
              let a = parameter_of vs w in
              let (i, j) = parameter_found vs w k in
              outcome_on (ap (λ r. r.step) (arguments_next room ps p w rest n k))
              (λ r. record {
                parameters = a ∷ r.parameters;
                rest = r.rest;
                text = n.text ∙ ap₂ (λ v t. space ∷ (v ++ t)) (sym i) (sym (next_behind n) ∙ r.text)
                    ∙ sym (spaced_first (parameter_word vs a) (map (parameter_word vs) r.parameters) (lf ∷ r.rest));
                sound = ap₂ ◌&&◌ j r.sound;
                few = omega arith;
              })
              (ih (ps ++ (a ∷ [])) (p + 1 + length w) (next_inside n))
          declared false k = arguments_stop room ps p w rest n k
      by ih (failed n e f i) = faulty (rw (e, f)) (rw (e, f) (i l))
