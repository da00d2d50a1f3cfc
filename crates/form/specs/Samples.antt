-- Texts with their readings by document 01, each limit from both sides: the number and place of a refusal, or what is declared, where each
-- name stands, and the pattern's tree. The theorem about the whole table is in ../proofs/Samples.antt.
use Rattle.std.specs.Prelude.{Bool, true, false, List, [], ◌∷◌, ◌++◌, map, ℕ, zero, suc, replicate}
use Prim.Native.String.{String}
use Rattle.laws.specs.Lists.{gather}
use Rattle.pattern.specs.Regex.{Regex, lit, cat, alt, star, plus, opt}
use Rattle.meaning.specs.Events.{Parameter, ignored, names, fixed}
use Rattle.form.specs.Text.{Bytes, ascii, space, SymbolLine, Declarations, symbol_of, Span, spans, text}
use Rattle.form.specs.Form.{same_word, symbol_names}
use Rattle.form.specs.Scan.{fail}
use Rattle.form.specs.Lines.{Table, bytes_at}
use Rattle.form.specs.Reading.{Outcome, refused, reading_of}

-- the pattern's bytes behind `match` and a space, what is declared, where the variables' and the symbols' names stand, and the tree
pub record Read : Type 0 where
  pub declared : Declarations
  pub written : Bytes
  pub variables : List Span
  pub symbols : List Span
  pub tree : Regex

pub data Sample : Type 0 where
  accepts : Bytes → Read → Sample
  refuses : Bytes → (number place : ℕ) → Sample

-- what the reader gives, and of an accepted text whether the printer writes it, where it puts the names, and the bytes there
pub record Result : Type 0 where
  pub reading : Outcome
  pub printed : Bool
  pub named : List Span
  pub variables : List Bytes
  pub symbols : List Bytes

abbrev refusal : Outcome → Result
refusal o = record { reading = o; printed = false; named = []; variables = []; symbols = [] }

abbrev pub outcome : Sample → Result
outcome (accepts s r) =
    record {
      reading = reading_of s;
      printed = same_word (text r.declared r.written) s;
      named = spans r.declared;
      variables = map (bytes_at s) r.variables;
      symbols = map (bytes_at s) r.symbols;
    }
outcome (refuses s n p) = refusal (reading_of s)

abbrev pub wanted : Sample → Result
wanted (accepts s r) =
    let table : Table = record { variables = r.variables; symbols = r.symbols; table = map symbol_of r.declared.symbols } in
    record {
      reading = record { number = 0; place = 0; table = table; tree = r.tree };
      printed = true;
      named = r.variables ++ r.symbols;
      variables = r.declared.variables;
      symbols = symbol_names r.declared;
    }
wanted (refuses s n p) = refusal (refused (fail n p))

abbrev pub line : String → ℕ → List Parameter → SymbolLine
line w k ps = record { name = ascii w; kind = k; parameters = ps }

abbrev pub span : ℕ → ℕ → Span
span p n = record { start = p; size = n }

-- `vars`, `sym a 1` and a pattern of this one symbol
abbrev pub one : Bytes → Regex → Read
one p r =
    record { declared = record { variables = []; symbols = line "a" 1 [] ∷ [] }; written = p; variables = []; symbols = span 9 1 ∷ []; tree = r }

abbrev pub one_text : Bytes → Bytes
one_text p = ascii "vars\nsym a 1\nmatch " ++ (p ++ ascii "\n")

-- a word so many times
abbrev pub times : ℕ → String → Bytes
times n w = gather ascii (replicate n w)

-- the first symbol, and so many times more
abbrev behind : ℕ → Regex
behind zero = lit 0
behind (suc n) = cat (lit 0) (behind n)

-- `sym`, a name of one byte, KIND 1
abbrev numbered : ℕ → Bytes
numbered b = ascii "sym " ++ (b ∷ ascii " 1\n")

-- n to z, a and b
abbrev fifteen : Bytes
fifteen = 110 ∷ 111 ∷ 112 ∷ 113 ∷ 114 ∷ 115 ∷ 116 ∷ 117 ∷ 118 ∷ 119 ∷ 120 ∷ 121 ∷ 122 ∷ 97 ∷ 98 ∷ []

-- B1
unfoldable pub first : List Sample
first =
    accepts (ascii "vars d s\nsym load 1 d s\nsym drop 2 d\nsym clean 3 d\nmatch load drop+\n")
    (record {
      declared = record {
        variables = ascii "d" ∷ ascii "s" ∷ [];
        symbols = line "load" 1 (names 0 ∷ names 1 ∷ []) ∷ line "drop" 2 (names 0 ∷ []) ∷ line "clean" 3 (names 0 ∷ []) ∷ [];
      };
      written = ascii "load drop+";
      variables = span 5 1 ∷ span 7 1 ∷ [];
      symbols = span 13 4 ∷ span 28 4 ∷ span 41 5 ∷ [];
      tree = cat (lit 0) (plus (lit 1));
    })
    ∷ []

-- four variables, a name of 12 bytes, KIND 255, `_` and a variable twice among four arguments, each sign of a pattern
unfoldable pub full : List Sample
full =
    accepts (ascii "vars a b c d\nsym abcdefghijk9 255 a a _ b\nsym e 10 c d\nmatch  (e | abcdefghijk9)?* abcdefghijk9 e+ \n")
    (record {
      declared = record {
        variables = ascii "a" ∷ ascii "b" ∷ ascii "c" ∷ ascii "d" ∷ [];
        symbols = line "abcdefghijk9" 255 (names 0 ∷ names 0 ∷ ignored ∷ names 1 ∷ []) ∷ line "e" 10 (names 2 ∷ names 3 ∷ []) ∷ [];
      };
      written = ascii " (e | abcdefghijk9)?* abcdefghijk9 e+ ";
      variables = span 5 1 ∷ span 7 1 ∷ span 9 1 ∷ span 11 1 ∷ [];
      symbols = span 17 12 ∷ span 46 1 ∷ [];
      tree = cat (star (opt (alt (lit 1) (lit 0)))) (cat (lit 0) (plus (lit 1)));
    })
    -- no word is reserved
    ∷ accepts (ascii "vars sym\nsym match 1 sym\nmatch match\n")
    (record {
      declared = record { variables = ascii "sym" ∷ []; symbols = line "match" 1 (names 0 ∷ []) ∷ [] };
      written = ascii "match";
      variables = span 5 3 ∷ [];
      symbols = span 13 5 ∷ [];
      tree = lit 0;
    })
    -- 16 symbols, z and 0; `|` divides sequences
    ∷ accepts (118 ∷ 97 ∷ 114 ∷ 115 ∷ 10 ∷ (gather numbered fifteen ++ ascii "sym z0 1\nmatch n z0|z a\n"))
    (record {
      declared = record {
        variables = [];
        symbols = line "n" 1 [] ∷ line "o" 1 [] ∷ line "p" 1 [] ∷ line "q" 1 [] ∷ line "r" 1 [] ∷ line "s" 1 [] ∷ line "t" 1 [] ∷ line "u" 1 [] ∷ line "v" 1 []
            ∷ line "w" 1 [] ∷ line "x" 1 [] ∷ line "y" 1 [] ∷ line "z" 1 [] ∷ line "a" 1 [] ∷ line "b" 1 [] ∷ line "z0" 1 [] ∷ [];
      };
      written = ascii "n z0|z a";
      variables = [];
      symbols = span 9 1 ∷ span 17 1 ∷ span 25 1 ∷ span 33 1 ∷ span 41 1 ∷ span 49 1 ∷ span 57 1 ∷ span 65 1 ∷ span 73 1 ∷ span 81 1 ∷ span 89 1 ∷ span 97 1
          ∷ span 105 1 ∷ span 113 1 ∷ span 121 1 ∷ span 129 2 ∷ [];
      tree = alt (cat (lit 0) (lit 15)) (cat (lit 12) (lit 13));
    })
    ∷ []

-- document 02, change 1: "An argument word may be `=` and a number 0 to 4294967295 without extra leading zeros; anything else after `=` is answer 2."
unfoldable pub fixed_numbers : List Sample
fixed_numbers =
    accepts (ascii "vars s\nsym load 1 =3 s\nsym a 2 =0 =4294967295 _ =10\nmatch a load\n")
    (record {
      declared = record {
        variables = ascii "s" ∷ [];
        symbols = line "load" 1 (fixed 3 ∷ names 0 ∷ []) ∷ line "a" 2 (fixed 0 ∷ fixed 4294967295 ∷ ignored ∷ fixed 10 ∷ []) ∷ [];
      };
      written = ascii "a load";
      variables = span 5 1 ∷ [];
      symbols = span 11 4 ∷ span 27 1 ∷ [];
      tree = cat (lit 1) (lit 0);
    })
    ∷ refuses (ascii "vars\nsym a 1 =\n") 2 13
    ∷ refuses (ascii "vars\nsym a 1 =x\n") 2 13
    ∷ refuses (ascii "vars\nsym a 1 =01\n") 2 13
    ∷ refuses (ascii "vars\nsym a 1 =00\n") 2 13
    ∷ refuses (ascii "vars\nsym a 1 =3x\n") 2 13
    ∷ refuses (ascii "vars\nsym a 1 =+1\n") 2 13
    ∷ refuses (ascii "vars\nsym a 1 ==3\n") 2 13
    ∷ refuses (ascii "vars d\nsym a 1 d=3\n") 2 15
    ∷ refuses (ascii "vars\nsym a 1 _=3\n") 2 13
    ∷ refuses (ascii "vars\nsym a 1 =4294967296\n") 2 13
    ∷ refuses (ascii "vars\nsym a 1 =42949672950\n") 2 13
    ∷ refuses (ascii "vars\nsym a 1 =" ++ (times 3000 "9" ++ ascii "\n")) 2 13
    -- a fifth argument; a fixed number binds nothing; `=` elsewhere
    ∷ refuses (ascii "vars\nsym a 1 =1 =2 =3 =4 =5\n") 3 25
    ∷ refuses (ascii "vars d\nsym a 1 =0\nmatch a\n") 8 24
    ∷ refuses (ascii "vars =3\n") 2 5
    ∷ refuses (ascii "vars\nsym =3 1\n") 2 9
    ∷ refuses (ascii "vars\nsym a =3\n") 2 11
    ∷ refuses (one_text (ascii "a=3")) 6 20
    ∷ []

-- the line of variables
unfoldable pub variables : List Sample
variables =
    refuses (ascii "vars a b c d e") 3 13
    ∷ refuses (ascii "vars abcdefghijklm") 3 5
    ∷ refuses [] 2 0
    ∷ refuses (ascii "vars  a\n") 2 5
    ∷ refuses (ascii "vars a \n") 2 6
    ∷ refuses (ascii "vars a a\n") 4 7
    -- spaces at a line's end, the first of them, also before the book's end; an excess word of any form; at one place the smaller number
    ∷ refuses (ascii "vars a  \n") 2 6
    ∷ refuses (ascii "vars a ") 2 6
    ∷ refuses (ascii "vars a b c d !\n") 3 13
    ∷ refuses (ascii "vars abcdefghijklm!\n") 2 5
    -- "then a to z or 0 to 9": no capital, no `_`
    ∷ refuses (ascii "vars aB\n") 2 5
    ∷ refuses (ascii "vars a_b\n") 2 5
    -- the bytes beside a, z, 0 and 9
    ∷ refuses (ascii "vars a" ++ (96 ∷ 10 ∷ [])) 2 5
    ∷ refuses (ascii "vars a" ++ (123 ∷ 10 ∷ [])) 2 5
    ∷ refuses (ascii "vars a" ++ (47 ∷ 10 ∷ [])) 2 5
    ∷ refuses (ascii "vars a" ++ (58 ∷ 10 ∷ [])) 2 5
    ∷ refuses (ascii "varsx\n") 2 0
    -- a byte of no name: CR, NUL, one from 128 on; a tab is no space
    ∷ refuses (ascii "vars a" ++ (13 ∷ 10 ∷ [])) 2 5
    ∷ refuses (ascii "vars a" ++ (0 ∷ 10 ∷ [])) 2 5
    ∷ refuses (ascii "vars a" ++ (128 ∷ 10 ∷ [])) 2 5
    ∷ refuses (ascii "vars" ++ (9 ∷ 97 ∷ 10 ∷ [])) 2 0
    ∷ []

-- the lines of symbols, and the end
unfoldable pub lines : List Sample
lines =
    refuses (ascii "vars a\nmatch a\n") 2 7
    ∷ refuses (ascii "vars a\nsym a 1\n") 4 11
    ∷ refuses (ascii "vars\nsym a\n") 2 10
    ∷ refuses (ascii "vars\nsym a 256\n") 2 11
    ∷ refuses (ascii "vars\nsym a 01\n") 2 11
    ∷ refuses (ascii "vars\nsym a 1 a\n") 5 13
    ∷ refuses (ascii "vars b\nsym a 1 b b b b b\n") 3 23
    ∷ refuses (ascii "vars\nsym a 1\nmatch a") 2 20
    ∷ refuses (ascii "vars\nsym a 1\nmatch a\n\n") 2 21
    -- a space first; another word for `vars`, for `sym`; no name; no argument, a long one, an undeclared one; two symbols of one name; `match` alone
    ∷ refuses (ascii " vars\n") 2 0
    ∷ refuses (ascii "vars\n sym a 1\n") 2 5
    ∷ refuses (ascii "var\n") 2 0
    ∷ refuses (ascii "vars\nsyn a 1\n") 2 5
    ∷ refuses (ascii "vars a A\n") 2 7
    ∷ refuses (ascii "vars 9a\n") 2 5
    ∷ refuses (ascii "vars\nsym a 0\n") 2 11
    ∷ refuses (ascii "vars\nsym a 1000\n") 2 11
    ∷ refuses (ascii "vars\nsym a 1x\n") 2 11
    ∷ refuses (ascii "vars b\nsym a 1 b _ !\n") 2 19
    ∷ refuses (ascii "vars\nsym a 1 abcdefghijklm\n") 3 13
    ∷ refuses (ascii "vars b\nsym a 1 c\n") 5 15
    ∷ refuses (ascii "vars b\nsym a 1 b b b b !\n") 3 23
    ∷ refuses (ascii "vars\nsym a 1\nmatch(a)\n") 2 13
    ∷ refuses (ascii "vars\nsymb 1\n") 2 5
    ∷ refuses (ascii "vars\nsym a 1\nmatch (a") 2 21
    ∷ refuses (ascii "vars\nsym a 1\nsym a 2\n") 4 17
    ∷ refuses (ascii "vars\nsym a 1\nmatch\n") 2 18
    ∷ refuses (ascii "vars\nsym a 1\nmatch \n") 6 19
    ∷ refuses (ascii "vars" ++ (10 ∷ gather numbered (fifteen ++ (99 ∷ 100 ∷ [])))) 3 133
    -- behind 16 of them: a missing line, another word; only a seventeenth `sym` is one too many
    ∷ refuses (ascii "vars" ++ (10 ∷ gather numbered (fifteen ++ (99 ∷ [])))) 2 133
    ∷ refuses (ascii "vars" ++ (10 ∷ (gather numbered (fifteen ++ (99 ∷ [])) ++ ascii "symb 1\n"))) 2 133
    ∷ []

-- patterns; "No word of the pattern may be empty, and each word must contain, for each variable, a symbol that binds it."
unfoldable pub patterns : List Sample
patterns =
    refuses (ascii "vars d s\nsym a 1 d\nmatch a\n") 8 25
    ∷ refuses (one_text (ascii " a*")) 7 20
    ∷ refuses (one_text (ascii "a |")) 6 22
    ∷ refuses (one_text (ascii "(a")) 6 21
    ∷ refuses (one_text (ascii "a b")) 5 21
    ∷ refuses (one_text (ascii "a)")) 6 20
    ∷ refuses (one_text (ascii "a||a")) 6 21
    ∷ refuses (one_text (ascii "()")) 6 20
    ∷ refuses (one_text (ascii "*a")) 6 19
    ∷ refuses (one_text (ascii "a!")) 6 20
    ∷ refuses (one_text (ascii "a" ++ (0 ∷ []))) 6 20
    -- "then the earliest place", also on a line with no LF; "7, then 8, after everything"
    ∷ refuses (ascii "vars\nsym a 1\nmatch a)") 6 20
    ∷ refuses (ascii "vars\nsym a 1\nmatch b") 5 19
    ∷ refuses (ascii "vars\nsym a 1\nmatch a*") 2 21
    ∷ refuses (ascii "vars\nsym a 1\nmatch a*\n\n") 2 22
    ∷ refuses (ascii "vars d\nsym a 1\nmatch a\n\n") 2 23
    -- "spaces are free": no tab, no CR
    ∷ refuses (one_text (9 ∷ 97 ∷ [])) 6 19
    ∷ refuses (one_text (97 ∷ 9 ∷ [])) 6 20
    ∷ refuses (one_text (97 ∷ 13 ∷ [])) 6 20
    ∷ refuses (ascii "vars d\nsym a 1 d\nmatch a d\n") 5 25
    ∷ refuses (one_text (ascii "abcdefghijklm")) 3 19
    ∷ []

-- "At most 31 symbol occurrences"
unfoldable pub many : List Sample
many =
    accepts (one_text (times 31 "a ")) (one (times 31 "a ") (behind 30))
    ∷ refuses (one_text (times 32 "a ")) 3 81
    ∷ []

-- "at most 16 parentheses open together"
unfoldable pub deep : List Sample
deep =
    accepts (one_text (times 16 "(" ++ (ascii "a" ++ times 16 ")"))) (one (times 16 "(" ++ (ascii "a" ++ times 16 ")")) (lit 0))
    -- 17 one after the other; spaces before a sign
    ∷ accepts (one_text (times 17 "(a)")) (one (times 17 "(a)") (behind 16))
    ∷ accepts (one_text (ascii "a * ( a ) +")) (one (ascii "a * ( a ) +") (cat (star (lit 0)) (plus (lit 0))))
    ∷ refuses (one_text (times 17 "(" ++ (ascii "a" ++ times 17 ")"))) 3 35
    ∷ []

-- "A book is ASCII text, at most 4,096 bytes."
unfoldable pub long : List Sample
long =
    accepts (one_text (ascii "a" ++ replicate 4075 space)) (one (ascii "a" ++ replicate 4075 space) (lit 0))
    ∷ refuses (one_text (ascii "a" ++ replicate 4076 space)) 1 4096
    ∷ []

abbrev pub table : List Sample
table = first ++ (full ++ (fixed_numbers ++ (variables ++ (lines ++ (patterns ++ (many ++ (deep ++ long)))))))
