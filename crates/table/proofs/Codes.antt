-- What is coded is read back; the names as `find` looks through them; and a table stays ready as names are added.
use mathlib.Core.Path.{◌≡◌, refl, sym, ap, ap₂, ◌∙◌}
use mathlib.Core.Bool.{Bool, true, false, cond}
use mathlib.Core.List.{List, [], ◌∷◌, ◌++◌, map, map-append, append-nil, append_assoc}
use Prim.Native.Nat.{ℕ, ◌+◌, ◌-◌, ◌≤◌, ◌<◌}
use native.Mathlib.Omega.{arith}
use lib.Dec.{eqb, leb}
use borrow.Author.Tests.{eqb-true, eqb-false, le-leb, ltb-true, lt-ltb}
use lib.ListN.{length, take, drop, set, length-append, length-take, length-drop, length-replicate, length-map}
use lib.Seq.{take_all, take_at, drop_at, take-add}
use Rattle.laws.specs.Lists.{all}
use Rattle.laws.specs.Parts.{pad}
use Rattle.laws.proofs.Lists.{all_append, all_more, and_true_split}
use Rattle.laws.proofs.Parts.{pad_more}
use Rattle.meaning.specs.Events as Events
use Rattle.meaning.specs.Meaning.{no_symbol}
use Rattle.meaning.specs.Book.{sound_parameter}
use Rattle.form.specs.Text.{Bytes, Span}
use Rattle.form.specs.Lines as Lines
use Rattle.table.specs.declared.Parameter.{Parameter}
use Rattle.table.specs.declared.Table.{Table}
use Rattle.table.specs.Tables.{parameter_of, symbol_of, name_of, table_of, view_parameter, view_symbol, no_name, span_of, view_table, inside, Ready}

module _ {A B : Type 0} (n : ℕ) (d : B) (f : A → B) where
  -- one more element is written where the padding begins
  coded_more : (l : List A) (x : A) (k : ℕ) → length l ≡ k → k < n → set (pad n d (map f l)) k (f x) ≡ pad n d (map f (l ++ (x ∷ [])))
  coded_more l x k e h =
      let m : length (map f l) ≡ k = length-map l f ∙ e in
      ap (λ j. set (pad n d (map f l)) j (f x)) (sym m) ∙ pad_more n d (map f l) (f x) (omega arith)
      ∙ ap (pad n d) (sym (map-append f l (x ∷ [])))

  module _ (g : B → A) (back : (x : A) → g (f x) ≡ x) where
    map_back : (l : List A) → map g (map f l) ≡ l
    map_back [] = refl
    map_back (x ∷ l) = ap₂ ◌∷◌ (back x) (map_back l)

    -- what is counted is read back: from the beginning, and behind that
    read_first : (l m : List A) (k : ℕ) → length l ≡ k → map g (take k (pad n d (map f (l ++ m)))) ≡ l
    unfolding pad
    read_first l m k e = rw (map-append, append_assoc, take_at (map f l) _ k (length-map l f ∙ e), map_back)

    read_next : (l m : List A) (j k : ℕ) → length l ≡ j → length m ≡ k → map g (take k (drop j (pad n d (map f (l ++ m))))) ≡ m
    unfolding pad
    read_next l m j k e h =
        rw (map-append, append_assoc, drop_at (map f l) _ j (length-map l f ∙ e), take_at (map f m) _ k (length-map m f ∙ h), map_back)

view_parameter_law : (p : Events.Parameter) → view_parameter (parameter_of p) ≡ p
view_parameter_law Events.Parameter.ignored = refl
view_parameter_law (Events.Parameter.names v) = refl
view_parameter_law (Events.Parameter.fixed n) = refl

-- what the tag of a place says
pub view_either : (P : Events.Parameter → Type 0) (p : Parameter) → (p.tag ≡ 1 → P (Events.Parameter.names p.number))
    → (p.tag ≡ 2 → P (Events.Parameter.fixed p.number)) → ((p.tag ≡ 1 → ⊥) → (p.tag ≡ 2 → ⊥) → P Events.Parameter.ignored) → P (view_parameter p)
view_either P p named fixed neither = by (eqb p.tag 1) (eqb p.tag 2) refl refl
  where
    by : (a b : Bool) → eqb p.tag 1 ≡ a → eqb p.tag 2 ≡ b
        → P (cond a (Events.Parameter.names p.number) (cond b (Events.Parameter.fixed p.number) Events.Parameter.ignored))
    by true b e f = named (eqb-true p.tag 1 e)
    by false true e f = fixed (eqb-true p.tag 2 f)
    by false false e f = neither (eqb-false p.tag 1 e) (eqb-false p.tag 2 f)

pub view_named : (p : Parameter) → p.tag ≡ 1 → view_parameter p ≡ Events.Parameter.names p.number
view_named p h =
    view_either (λ x. x ≡ Events.Parameter.names p.number) p (λ _. refl) (λ k. absurd (omega (arith, h, k))) (λ n _. absurd (n h))

-- a parameter that is sound for some variables is so for more
pub parameter_wide : (n m : ℕ) → n ≤ m → (p : Events.Parameter) → sound_parameter n p ≡ true → sound_parameter m p ≡ true
parameter_wide n m h Events.Parameter.ignored k = refl
parameter_wide n m h (Events.Parameter.names v) k = lt-ltb v m (omega (arith, ltb-true v n k))
parameter_wide n m h (Events.Parameter.fixed x) k = k

view_back : (y : Events.Symbol) → view_symbol (symbol_of y) ≡ y
unfolding view_symbol symbol_of
view_back y = ap (λ (l : List Events.Parameter). record { kind = y.kind; parameters = l })
    (read_next 4 (parameter_of Events.Parameter.ignored) parameter_of view_parameter view_parameter_law [] y.parameters 0 (length y.parameters) refl refl)

pub view_symbol_law : (y : Events.Symbol) → length y.parameters ≤ 4 → view_symbol (symbol_of y) ≡ y
view_symbol_law y h = view_back y

-- one more parameter
pub symbol_more : (y : Events.Symbol) (p : Events.Parameter) → length y.parameters < 4
    → record { kind = y.kind; count = length y.parameters + 1; parameters = set (symbol_of y).parameters (length y.parameters) (parameter_of p) }
    ≡ symbol_of (record { kind = y.kind; parameters = y.parameters ++ (p ∷ []) })
unfolding symbol_of
symbol_more y p h =
    rw (coded_more 4 (parameter_of Events.Parameter.ignored) parameter_of y.parameters p (length y.parameters) refl h, length-append)

-- a plain table within the limits
pub record Fits (t : Lines.Table) : Type 0 where
  pub few_variables : length t.variables ≤ 4
  pub few_symbols : length t.table ≤ 16
  pub paired : length t.symbols ≡ length t.table
  pub few_parameters : all (λ y. leb (length y.parameters) 4) t.table ≡ true

view_paired : (t : Lines.Table) → length t.symbols ≡ length t.table → view_table (table_of t) ≡ t
unfolding view_table table_of
view_paired t e =
    let v = t.variables in
    let m = t.table in
    let a = read_first 20 no_name name_of span_of (λ x. refl) v t.symbols (length v) refl in
    let b = read_next 20 no_name name_of span_of (λ x. refl) v t.symbols (length v) (length m) refl e in
    let c = read_next 16 (symbol_of no_symbol) symbol_of view_symbol view_back [] m 0 (length m) refl refl in
    rw (a, b, c)

pub view_table_law : (t : Lines.Table) → Fits t → view_table (table_of t) ≡ t
view_table_law t f = view_paired t f.paired

-- the first names, and all names
pub names_variables : (t : Table) → map span_of (take (t.variables - 0) (drop 0 t.names)) ≡ (view_table t).variables
unfolding view_table
names_variables t =
    let e : t.variables - 0 ≡ t.variables = omega arith in
    rw e

pub names_symbols : (t : Table) → map span_of (take (t.variables + t.count - t.variables) (drop t.variables t.names)) ≡ (view_table t).symbols
unfolding view_table
names_symbols t =
    let e : t.variables + t.count - t.variables ≡ t.count = omega arith in
    rw e

pub names_all : (t : Table) → map span_of (take (t.variables + t.count) t.names) ≡ (view_table t).variables ++ (view_table t).symbols
unfolding view_table
names_all t = rw (take-add, map-append)

-- a coded table within the limits is ready, and is what it codes
ready_coded : (s : Bytes) (v : Lines.Table) → Fits v → all (inside (length s)) (v.variables ++ v.symbols) ≡ true
    → all (λ y. all (sound_parameter (length v.variables)) y.parameters) v.table ≡ true → (u : Table) → u ≡ table_of v
    → Ready s u × (view_table u ≡ v)
unfolding table_of
ready_coded s v f i d u e =
    let b = view_table_law v f in
    let known : Ready s (table_of v) =
    record {
      coded = ap table_of (sym b);
      few_variables = f.few_variables;
      few_symbols = f.few_symbols;
      in_text = rw b i;
      declared = rw b d;
      few_parameters = rw b f.few_parameters;
    } in
    rw e (known, b)

pad_room : {A : Type 0} (n : ℕ) (d : A) (l : List A) → n ≤ length (pad n d l)
unfolding pad
pad_room n d l = simp (length-append, length-replicate) (omega arith)

symbols_length : (t : Table) → t.variables + t.count ≤ length t.names → length (view_table t).symbols ≡ t.count
unfolding view_table
symbols_length t h = simp (length-map, length-take, length-drop) (omega arith)

-- a table that codes the plain table v, part by part
record Parts (t : Table) (v : Lines.Table) : Type 0 where
  pub variables : t.variables ≡ length v.variables
  pub count : t.count ≡ length v.table
  pub names : t.names ≡ pad 20 no_name (map name_of (v.variables ++ v.symbols))
  pub symbols : t.symbols ≡ pad 16 (symbol_of no_symbol) (map symbol_of v.table)

ready_parts : (s : Bytes) (t : Table) → Ready s t → Parts t (view_table t)
unfolding table_of
ready_parts s t r =
    let e = r.coded in
    record { variables = ap (λ u. u.variables) e; count = ap (λ u. u.count) e; names = ap (λ u. u.names) e; symbols = ap (λ u. u.symbols) e }

-- a ready table is within the limits: its array of names has room for all, so as many symbols are named as there are
pub ready_fits : (s : Bytes) (t : Table) → Ready s t → Fits (view_table t)
ready_fits s t r =
    let a = ready_parts s t r in
    let n : 20 ≤ length t.names = rw a.names (pad_room 20 no_name _) in
    let k = symbols_length t (omega arith) in
    record { few_variables = omega arith; few_symbols = omega arith; paired = k ∙ a.count; few_parameters = r.few_parameters }

-- the table with nothing in it
pub ready_none : (s : Bytes) → Ready s (table_of Lines.no_table)
ready_none s =
    let f : Fits Lines.no_table = record { few_variables = omega arith; few_symbols = omega arith; paired = refl; few_parameters = refl } in
    (ready_coded s Lines.no_table f refl refl (table_of Lines.no_table) refl).0

-- a table with one more variable, as `with_variable` makes it
pub ready_variable : (s : Bytes) (t : Table) → Ready s t → t.count ≡ 0 → t.variables < 4 → (x : Span) → inside (length s) x ≡ true
    → let u : Table = record { variables = t.variables + 1; count = t.count; names = set t.names t.variables (name_of x); symbols = t.symbols } in
    Ready s u × (view_table u ≡ record { variables = (view_table t).variables ++ (x ∷ []); symbols = []; table = [] })
unfolding table_of
ready_variable s t r c h x i =
    let v = view_table t in
    let f = ready_fits s t r in
    let a = ready_parts s t r in
    let k : v.symbols ≡ [] = sym (take_all 0 v.symbols (omega arith)) in
    let j : v.table ≡ [] = sym (take_all 0 v.table (omega arith)) in
    let p = coded_more 20 no_name name_of v.variables x t.variables (sym a.variables) (omega arith) in
    let w : Lines.Table = record { variables = v.variables ++ (x ∷ []); symbols = []; table = [] } in
    let g : Fits w = record { few_variables = rw length-append (omega arith); few_symbols = omega arith; paired = refl; few_parameters = refl } in
    let o : all (inside (length s)) v.variables ≡ true = (and_true_split _ _ (sym (all_append _ v.variables v.symbols) ∙ r.in_text)).0 in
    let z : v.variables ++ v.symbols ≡ v.variables = ap (λ l. v.variables ++ l) k ∙ append-nil _ in
    ready_coded s w g (rw append-nil (all_more _ v.variables x o i)) refl _ (cc (length-append v.variables (x ∷ []), append-nil w.variables))

-- a table with one more symbol, as `with_symbol` makes it
pub ready_symbol : (s : Bytes) (t : Table) → Ready s t → t.count < 16 → (x : Span) → inside (length s) x ≡ true
    → (y : Events.Symbol) → length y.parameters ≤ 4 → all (sound_parameter t.variables) y.parameters ≡ true
    → let names = set t.names (t.variables + t.count) (name_of x) in let symbols = set t.symbols t.count (symbol_of y) in
    let u : Table = record { variables = t.variables; count = t.count + 1; names = names; symbols = symbols } in
    Ready s u × (view_table u
    ≡ record { variables = (view_table t).variables; symbols = (view_table t).symbols ++ (x ∷ []); table = (view_table t).table ++ (y ∷ []) })
unfolding table_of
ready_symbol s t r c x i y l d =
    let v = view_table t in
    let f = ready_fits s t r in
    let a = ready_parts s t r in
    let many : length (v.variables ++ v.symbols) ≡ t.variables + t.count = rw length-append (omega arith) in
    let p = coded_more 20 no_name name_of (v.variables ++ v.symbols) x (t.variables + t.count) many (omega arith) in
    let q = coded_more 16 (symbol_of no_symbol) symbol_of v.table y t.count (sym a.count) c in
    let w : Lines.Table = record { variables = v.variables; symbols = v.symbols ++ (x ∷ []); table = v.table ++ (y ∷ []) } in
    let g : Fits w =
    record {
      few_variables = f.few_variables;
      few_symbols = rw length-append (omega arith);
      paired = simp (length-append, f.paired);
      few_parameters = all_more _ v.table y f.few_parameters (le-leb _ 4 l);
    } in
    let e = append_assoc v.variables v.symbols (x ∷ []) in
    let o : all (inside (length s)) (v.variables ++ (v.symbols ++ (x ∷ []))) ≡ true =
    rw (← e) (all_more (inside (length s)) (v.variables ++ v.symbols) x r.in_text i) in
    let z = all_more _ v.table y r.declared d in
    ready_coded s w g o (rw (← a.variables) z) _ (cc (length-append v.table (y ∷ [])))
