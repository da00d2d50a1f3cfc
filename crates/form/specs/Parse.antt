-- The course of the reader over a pattern: alternation, sequence and atom, which call one another. The first argument bounds
-- how deep the calls go; it is more than they can use (../proofs). `used` counts the occurrences read before.
use Rattle.std.specs.Prelude.{Bool, cond, ◌||◌, List, [], ◌∷◌, ℕ, zero, suc, ◌+◌, ◌-◌, ◌*◌, eqb, leb, ltb, length, drop}
use Rattle.pattern.specs.Regex.{Regex, lit, cat, alt, star, plus, opt}
use Rattle.pattern.specs.Positions.{size, occurrence_limit}
use Rattle.form.specs.Limits.{text_limit, name_limit, open_limit}
use Rattle.form.specs.Text.{Bytes, space, is_lower, Span}
use Rattle.form.specs.Phrase.{opening, closing, bar, asterisk, plus_sign, question}
use Rattle.form.specs.Scan.{Step, go, fail, at, past_end, spaces_end, name_end, part}
use Rattle.form.specs.Lines.{index_of}

pub record Parsed : Type 0 where
  pub step : Step
  pub tree : Regex

abbrev pub failed : Step → Parsed
failed x = record { step = x; tree = lit 0 }

-- `*`, `+`, `?` behind an atom that ends at `done`; the bytes left begin at `here`
abbrev pub postfix_on : Bytes → (here done : ℕ) → Regex → Parsed
postfix_on [] here done r = record { step = go done; tree = r }
postfix_on (b ∷ l) here done r =
    let spaced = postfix_on l (here + 1) done r in
    let starred = postfix_on l (here + 1) (here + 1) (star r) in
    let plussed = postfix_on l (here + 1) (here + 1) (plus r) in
    let optional = postfix_on l (here + 1) (here + 1) (opt r) in
    cond (eqb b space) spaced
    (cond (eqb b asterisk) starred (cond (eqb b plus_sign) plussed (cond (eqb b question) optional (record { step = go done; tree = r }))))

-- an item from its atom
unfoldable pub item_of : Bytes → Parsed → Parsed
item_of s a = let p = a.step.place in cond (eqb a.step.fault 0) (postfix_on (drop p s) p p a.tree) a

-- a name in a pattern, from q on: 3 where it is too long or one occurrence too many, 5 where it is no symbol's
unfoldable pub name_atom : Bytes → List Span → (used q : ℕ) → Parsed
name_atom s symbols used q =
    let e = name_end s q in
    let a = index_of s symbols (part s q e) in
    let known = cond (ltb a (length symbols)) (record { step = go e; tree = lit a }) (failed (fail 5 q)) in
    cond (ltb name_limit (e - q) || leb occurrence_limit used) (failed (fail 3 q)) known

-- a token that cannot stand at q: "pattern out of form"; at the book's end the LF is missing, which is 2
abbrev pub unfit : Bytes → ℕ → Step
unfit s q = fail (cond (eqb (at s q) past_end) 2 6) q

-- the closing parenthesis behind an alternation
unfoldable pub closed : Bytes → Parsed → Parsed
closed s a =
    let q = spaces_end s a.step.place in
    let end = cond (eqb (at s q) closing) (record { step = go (q + 1); tree = a.tree }) (failed (unfit s q)) in
    cond (eqb a.step.fault 0) end a

-- whether an item begins with the byte
abbrev pub begins_item : ℕ → Bool
begins_item b = is_lower b || eqb b opening

-- the second part behind the first, both in order
abbrev pub joined : (Regex → Regex → Regex) → Parsed → Parsed → Parsed
joined f a b = cond (eqb b.step.fault 0) (record { step = b.step; tree = f a.tree b.tree }) b

module _ (s : Bytes) (symbols : List Span) where
  unfoldable mutual
    -- sequences divided by `|`
    pub alternation_from : ℕ → (depth used p : ℕ) → Parsed
    alternation_from zero d k p = failed (fail 6 p)
    alternation_from (suc n) d k p =
        let a = sequence_from n d k p in
        let q = spaces_end s a.step.place in
        let b = alternation_from n d (k + size a.tree) (q + 1) in
        let both = cond (eqb (at s q) bar) (joined alt a b) a in
        cond (eqb a.step.fault 0) both a

    -- one or more items
    pub sequence_from : ℕ → (depth used p : ℕ) → Parsed
    sequence_from zero d k p = failed (fail 6 p)
    sequence_from (suc n) d k p =
        let a = item_of s (atom_from n d k p) in
        let b = sequence_from n d (k + size a.tree) a.step.place in
        let both = cond (begins_item (at s (spaces_end s a.step.place))) (joined cat a b) a in
        cond (eqb a.step.fault 0) both a

    -- a name or an alternation in parentheses; "a count or depth above its limit" is 3
    pub atom_from : ℕ → (depth used p : ℕ) → Parsed
    atom_from zero d k p = failed (fail 6 p)
    atom_from (suc n) d k p =
        let q = spaces_end s p in
        let name = name_atom s symbols k q in
        let inner = closed s (alternation_from n (d - 1) k (q + 1)) in
        let group = cond (eqb d 0) (failed (fail 3 q)) inner in
        let other = cond (eqb (at s q) opening) group (failed (unfit s q)) in
        cond (is_lower (at s q)) name other

-- more calls than a text within its limit can take, from p on with d parentheses left to open: three levels at each byte
abbrev pub enough : (d p : ℕ) → ℕ
enough d p = d * ((text_limit + 2) * 3) + (text_limit + 1 - p) * 3

-- the pattern from p on, up to the LF or what stands in its place
unfoldable pub pattern_from : Bytes → List Span → ℕ → Parsed
pattern_from s symbols p = alternation_from s symbols (enough open_limit p + 3) open_limit 0 p
