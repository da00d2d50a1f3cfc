-- More texts with their readings, as Samples of the crate form has them; here, where no edit computes them again.
use mathlib.Core.Path.{◌≡◌, refl}
use mathlib.Core.List.{List, [], ◌∷◌, ◌++◌, map}
use Prim.Native.Nat.{ℕ, zero, suc}
use Rattle.laws.specs.Bits.{bit, join, meet, single}
use Rattle.pattern.specs.Regex.{Regex, lit, cat, alt, star, plus, opt}
use Rattle.meaning.specs.Events.{names}
use Rattle.form.specs.Text.{ascii, decimal, header, text}
use Rattle.form.specs.Scan.{spaces_end, word_end, name_end, next_word, name_fault, kind_of}
use Rattle.form.specs.Lines.{want_word, kind_from, symbol_from, lines_of}
use Rattle.form.specs.Parse.{item_of, name_atom, closed, alternation_from, pattern_from}
use Rattle.form.specs.Reading.{last_line, match_from, reading_of}
use Rattle.form.specs.Samples.{Sample, accepts, refuses, line, span, one, one_text, times, outcome, wanted}

-- three occurrences, so many times, and one more
abbrev groups : ℕ → Regex
groups zero = lit 0
groups (suc n) = cat (alt (lit 0) (cat (lit 0) (lit 0))) (groups n)

-- more places, each where no other list has it: the first line, lines of symbols, the pattern's line, and the limits inside a pattern
unfoldable pub further : List Sample
further =
    -- "First line: `vars`": any other word there, `match` and `sym` too; no word; no LF; no second line; a space too many
    refuses (ascii "match a\n") 2 0
    ∷ refuses (ascii "match\n") 2 0
    ∷ refuses (ascii "match (\nvars\nsym a 1\n") 2 0
    ∷ refuses (ascii "sym a 1\nmatch a\n") 2 0
    ∷ refuses (ascii "\n") 2 0
    ∷ refuses (ascii "\nsym a 1\nmatch a\n") 2 0
    ∷ refuses (ascii "vars") 2 4
    ∷ refuses (ascii "vars a") 2 6
    ∷ refuses (ascii "vars\n") 2 5
    ∷ refuses (ascii "vars \n") 2 4
    -- "`sym NAME KIND ARGS`": a word that is missing, at the LF and at the book's end; spaces too many between any two words and at the end
    ∷ refuses (ascii "vars\nsym\n") 2 8
    ∷ refuses (ascii "vars\nsym \n") 2 8
    ∷ refuses (ascii "vars\nsym a \n") 2 10
    ∷ refuses (ascii "vars\nsym a") 2 10
    ∷ refuses (ascii "vars\nsym a 1") 2 12
    ∷ refuses (ascii "vars\nsym a 1\n") 2 13
    ∷ refuses (ascii "vars\nsym  a 1\n") 2 9
    ∷ refuses (ascii "vars\nsym a  1\n") 2 11
    ∷ refuses (ascii "vars\nsym a 1  _\n") 2 13
    ∷ refuses (ascii "vars\nsym a 1 \n") 2 12
    ∷ refuses (ascii "vars\nsym a 1 _ _ _ _ \n") 2 20
    -- a symbol's name is one; "for a name over 12 bytes, that name"; a word that is none is 2, however long
    ∷ refuses (ascii "vars\nsym A 1\n") 2 9
    ∷ refuses (ascii "vars\nsym aB 1\n") 2 9
    ∷ refuses (ascii "vars\nsym _ 1\n") 2 9
    ∷ refuses (ascii "vars\nsym abcdefghijklm 1\n") 3 9
    ∷ refuses (ascii "vars\nsym abcdefghijklm! 1\n") 2 9
    ∷ refuses (ascii "vars\nsym a 1 abcdefghijklm!\n") 2 13
    -- nor is one a name over 12 bytes that begins with a digit, or has digits alone, or two bytes of no name
    ∷ refuses (ascii "vars 1bcdefghijklm\n") 2 5
    ∷ refuses (ascii "vars\nsym 1bcdefghijklm 1\n") 2 9
    ∷ refuses (ascii "vars\nsym a 1 1bcdefghijklm\n") 2 13
    ∷ refuses (ascii "vars 1234567890123\n") 2 5
    ∷ refuses (ascii "vars\nsym a 1 _bcdefghijkl_\n") 2 13
    -- "a symbol's name among ARGS … is 5": of a line before, of a line behind
    ∷ refuses (ascii "vars\nsym b 1\nsym a 1 b\n") 5 21
    ∷ refuses (ascii "vars\nsym a 1 b\nsym b 1\n") 5 13
    -- the fourth variable and the fourth argument are judged like the first
    ∷ refuses (ascii "vars a b c A\n") 2 11
    ∷ refuses (ascii "vars a b c a\n") 4 11
    ∷ refuses (ascii "vars b\nsym a 1 b b b c\n") 5 21
    ∷ refuses (ascii "vars b\nsym a 1 b b b !\n") 2 21
    -- a line without words, a space before `match`, another `vars`; the pattern's line cut short; what follows it
    ∷ refuses (ascii "vars\n\nsym a 1\n") 2 5
    ∷ refuses (ascii "vars\nsym a 1\n match a\n") 2 13
    ∷ refuses (ascii "vars\nsym a 1\nvars\n") 2 13
    ∷ refuses (ascii "vars\nsym a 1\nmatch") 2 18
    ∷ refuses (ascii "vars\nsym a 1\nmatch ") 2 19
    ∷ refuses (ascii "vars\nsym a 1\nmatch  \n") 6 20
    ∷ refuses (ascii "vars\nsym a 1\nmatch a\nmatch a\n") 2 21
    -- the same in texts that are whole but for the one fault
    ∷ refuses (ascii "vars a \nsym b 1 a\nmatch b\n") 2 6
    ∷ refuses (ascii "vars  a\nsym b 1 a\nmatch b\n") 2 5
    ∷ refuses (ascii "vars a a\nsym b 1 a\nmatch b\n") 4 7
    ∷ refuses (ascii "vars\nsym a 1 \nmatch a\n") 2 12
    ∷ refuses (ascii "vars\nsym a 256\nmatch a\n") 2 11
    ∷ refuses (ascii "vars\nsym a 1 c\nmatch a\n") 5 13
    ∷ refuses (ascii "vars\nsym A 1\nsym a 1\nmatch a\n") 2 9
    -- tokens: a long name before what follows it; no name begins with a digit
    ∷ refuses (one_text (ascii "abcdefghijklm!")) 3 19
    ∷ refuses (one_text (ascii "a 1a")) 6 21
    ∷ refuses (one_text (ascii "(|a)")) 6 20
    ∷ refuses (one_text (ascii "|a")) 6 19
    ∷ refuses (one_text (ascii ")")) 6 19
    ∷ refuses (one_text (ascii "(a))")) 6 22
    -- 31 occurrences, whatever stands between them; behind them a sign may stand, a name is 3, also one that is not declared
    ∷ accepts (one_text (times 10 "(a|a a)" ++ ascii "a")) (one (times 10 "(a|a a)" ++ ascii "a") (groups 10))
    ∷ refuses (one_text (times 10 "(a|a a)" ++ ascii "a a")) 3 91
    ∷ refuses (one_text (times 31 "a|" ++ ascii "a")) 3 81
    ∷ refuses (one_text (times 31 "a " ++ ascii "(a)")) 3 82
    ∷ refuses (one_text (times 31 "a " ++ ascii "|")) 6 82
    ∷ refuses (one_text (times 31 "a " ++ ascii "b")) 3 81
    -- "No word of the pattern may be empty": an empty word of either side, of both parts, under a sign
    ∷ refuses (one_text (ascii "a?|a")) 7 19
    ∷ refuses (one_text (ascii "a|a*")) 7 19
    ∷ refuses (one_text (ascii "a?a*")) 7 19
    ∷ refuses (one_text (ascii "(a?)+")) 7 19
    ∷ accepts (one_text (ascii "a?a")) (one (ascii "a?a") (cat (opt (lit 0)) (lit 0)))
    ∷ accepts (one_text (ascii "a a*")) (one (ascii "a a*") (cat (lit 0) (star (lit 0))))
    -- "each word must contain, for each variable, a symbol that binds it"; 8 stands "at the pattern's first token"
    ∷ refuses (ascii "vars d s\nsym a 1 d\nmatch   a\n") 8 27
    ∷ refuses (ascii "vars d\nsym a 1 d\nsym b 2\nmatch a|b\n") 8 31
    ∷ refuses (ascii "vars d\nsym a 1 d\nsym b 2\nmatch b|a\n") 8 31
    ∷ refuses (ascii "vars d\nsym a 1 d\nsym b 2\nmatch b a?\n") 8 31
    ∷ refuses (ascii "vars d\nsym a 1 d\nsym b 2\nmatch a* b\n") 8 31
    -- no word is reserved, `vars` neither; one variable, bound in one part of a sequence
    ∷ accepts (ascii "vars vars\nsym sym 1 vars\nsym b 100\nmatch b sym+\n")
    (record {
      declared = record { variables = ascii "vars" ∷ []; symbols = line "sym" 1 (names 0 ∷ []) ∷ line "b" 100 [] ∷ [] };
      written = ascii "b sym+";
      variables = span 5 4 ∷ [];
      symbols = span 14 3 ∷ span 29 1 ∷ [];
      tree = cat (lit 1) (plus (lit 0));
    })
    ∷ []

pub further_read : map outcome further ≡ map wanted further
unfolding bit join meet single decimal header text spaces_end word_end name_end next_word name_fault kind_of want_word kind_from symbol_from lines_of item_of
    name_atom closed alternation_from pattern_from last_line match_from reading_of further
further_read = refl
