-- What damaged texts are refused for: the listing of PROTOCOL 12.1 with one piece changed, for each way in which a text can be wrong. One table, and one proof.
use mathlib.Core.Path.{◌≡◌, refl}
use mathlib.Core.Bool.{true, false}
use mathlib.Core.List.{List, [], ◌∷◌, map}
use Prim.Native.String.{◌++◌}
use Rattle.text_format.proofs.ComputeText.{computed_text}
use Rattle.text_format.proofs.TextExamples.{names, settings, key, message, commitment, rounds, challenge, final, claim, input, with_settings, no_depth, listing}
use Rattle.text_format.proofs.TextExamples.{bound_and_rows, weights}
use Rattle.text_format.proofs.TextRows.{Row, given, expected}
use Rattle.text_format.proofs.TextRows.Row.{prove, verify, begins}

abbrev table : List Row
table =
    -- 2: the names line, and a text that ends in it
    begins "" false
    ∷ begins "part item place value" false
    ∷ begins names true
    ∷ begins (names ++ "x") true
    ∷ begins "part item place valua\n" false
    ∷ begins "Part item place value\n" false
    ∷ prove "part" 2
    ∷ prove "part item place value" 2
    ∷ prove names 2
    ∷ prove ("part item value place\n" ++ settings ++ key ++ message ++ challenge) 2
    ∷ prove ("part item place value \n" ++ settings ++ key ++ message ++ challenge) 2
    ∷ prove ("part item place value\r\n" ++ settings ++ key ++ message ++ challenge) 2
    ∷ prove (settings ++ key ++ message ++ challenge) 2
    ∷ prove (names ++ names ++ settings ++ key ++ message ++ challenge) 2
    -- 2: the first five value lines
    ∷ prove (names ++ "0 0 0 2\n0 0 1 1\n0 0 2 17\n0 0 3 1\n") 2
    ∷ prove (with_settings "0 0 0 2\n0 0 1 1\n0 0 2 17\n0 0 3 1\n") 2
    ∷ prove (with_settings "0 0 0 2\n0 0 2 17\n0 0 1 1\n0 0 3 1\n0 0 4 1\n") 2
    ∷ prove (with_settings "0 0 0 2\n0 0 1 1\n0 1 2 17\n0 0 3 1\n0 0 4 1\n") 2
    ∷ prove (with_settings "1 0 0 2\n0 0 1 1\n0 0 2 17\n0 0 3 1\n0 0 4 1\n") 2
    ∷ prove (with_settings "0 0 0 2\n0 0 1 1\n0 0 2 17\n0 0 4 1\n0 0 3 1\n") 2
    ∷ prove (with_settings "0 0 0 2\n0 0 1 1\n0 0 2 17\n0 0 3 1\n0 1 4 1\n") 2
    ∷ prove (names ++ key ++ settings ++ message ++ challenge) 2
    -- 2: line feeds and spaces
    ∷ prove (input key message "5 0 0 1") 2
    ∷ prove (input key message "5 0 0 1\r\n") 2
    ∷ prove (input key message "5  0 0 1\n") 2
    ∷ prove (input key message "5\t0 0 1\n") 2
    ∷ prove (input key message "5 0 0 1 \n") 2
    ∷ prove (input key message " 5 0 0 1\n") 2
    ∷ prove (input key message "5 0 0 1\n\n") 2
    ∷ prove (input key ("\n" ++ message) challenge) 2
    ∷ prove (input key message "5 0 1\n") 2
    ∷ prove (input key message "5 0 0 1 1\n") 2
    -- 2: numbers
    ∷ prove (input key message "5 0 0 01\n") 2
    ∷ prove (input key message "5 0 00 1\n") 2
    ∷ prove (input key message "05 0 0 1\n") 2
    ∷ prove (input key message "5 0 0 +1\n") 2
    ∷ prove (input key message "5 0 0 -0\n") 2
    ∷ prove (input key message "5 0 0 -01\n") 2
    ∷ prove (input key message "5 0 0 -\n") 2
    ∷ prove (input key message "5 0 0 --1\n") 2
    ∷ prove (input key message "5 0 0 \n") 2
    ∷ prove (input key message "5 0 0 1x\n") 2
    ∷ prove (input key message "5 0 0 1.0\n") 2
    ∷ prove (input key message "5 0 0 :\n") 2
    ∷ prove (input key message "5 0 0 /\n") 2
    ∷ prove (input key message "-5 0 0 1\n") 2
    ∷ prove (input key message "5 -1 0 1\n") 2
    ∷ prove (input key message "5 0 -1 1\n") 2
    ∷ prove (input key message "5 0 0 2147483648\n") 2
    ∷ prove (input key message "5 0 0 -2147483648\n") 2
    ∷ prove (input key message "5 0 2147483648 1\n") 2
    ∷ prove (input key message "5 2147483648 0 1\n") 2
    ∷ prove (input key message "2147483648 0 0 1\n") 2
    ∷ prove (input key message "5 0 0 4294967297\n") 2
    ∷ prove (input key message "5 0 0 100000000000000000000000000000000000000001\n") 2
    ∷ prove (input "1 0 0 2305843009213693952\n1 0 1 5\n1 1 0 7\n1 1 1 2\n" message challenge) 2
    ∷ prove (input key "2 0 0 2147483648\n2 0 1 -1\n2 1 0 1\n2 1 1 0\n" challenge) 2
    -- the largest magnitude is of the stated shape, in every column
    ∷ prove (input "1 0 0 2305843009213693951\n1 0 1 5\n1 1 0 7\n1 1 1 2\n" message challenge) 8
    ∷ prove (input key "2 0 0 2147483647\n2 0 1 -1\n2 1 0 1\n2 1 1 0\n" challenge) 9
    ∷ prove (input key message "5 0 0 2147483647\n") 10
    ∷ prove (input key message "5 0 0 -2147483647\n") 10
    ∷ prove (input key message "5 0 2147483647 1\n") 7
    ∷ prove (input key message "5 2147483647 0 1\n") 7
    ∷ prove (input key message "2147483647 0 0 1\n") 7
    -- 2 is over all lines, before 3 to 10
    ∷ prove (with_settings "0 0 0 3\n0 0 1 1\n0 0 2 17\n0 0 3 1\n0 0 4 1\n" ++ "x") 2
    ∷ prove (input "1 0 1 5\n1 0 0 3\n1 1 0 7\n1 1 1 2\n" message "5 0 0 1") 2
    ∷ prove (input "1 0 0 17\n1 0 1 5\n1 1 0 7\n1 1 1 2\n" message "5 0 0 +1\n") 2
    -- 3 to 6 and 16: out of range, and below zero
    ∷ prove (with_settings "0 0 0 0\n0 0 1 1\n0 0 2 17\n0 0 3 1\n0 0 4 1\n") 3
    ∷ prove (with_settings "0 0 0 1\n0 0 1 1\n0 0 2 17\n0 0 3 1\n0 0 4 1\n") 3
    ∷ prove (with_settings "0 0 0 3\n0 0 1 1\n0 0 2 17\n0 0 3 1\n0 0 4 1\n") 3
    ∷ prove (with_settings "0 0 0 128\n0 0 1 1\n0 0 2 17\n0 0 3 1\n0 0 4 1\n") 3
    ∷ prove (with_settings "0 0 0 -2\n0 0 1 1\n0 0 2 17\n0 0 3 1\n0 0 4 1\n") 3
    ∷ prove (with_settings "0 0 0 2\n0 0 1 9\n0 0 2 17\n0 0 3 1\n0 0 4 1\n") 4
    ∷ prove (with_settings "0 0 0 2\n0 0 1 -1\n0 0 2 17\n0 0 3 1\n0 0 4 1\n") 4
    ∷ prove (with_settings "0 0 0 2\n0 0 1 2147483647\n0 0 2 17\n0 0 3 1\n0 0 4 1\n") 4
    ∷ prove (with_settings "0 0 0 2\n0 0 1 1\n0 0 2 1\n0 0 3 1\n0 0 4 1\n") 5
    ∷ prove (with_settings "0 0 0 2\n0 0 1 1\n0 0 2 16\n0 0 3 1\n0 0 4 1\n") 5
    ∷ prove (with_settings "0 0 0 2\n0 0 1 1\n0 0 2 -17\n0 0 3 1\n0 0 4 1\n") 5
    ∷ prove (with_settings (bound_and_rows "0" "1")) 6
    ∷ prove (with_settings (bound_and_rows "128" "1")) 6
    ∷ prove (with_settings (bound_and_rows "-1" "1")) 6
    ∷ prove (with_settings (bound_and_rows "1" "0")) 16
    ∷ prove (with_settings (bound_and_rows "1" "5")) 16
    ∷ prove (with_settings (bound_and_rows "1" "-1")) 16
    ∷ prove (with_settings (bound_and_rows "1" "2305843009213693951")) 16
    ∷ prove (with_settings "0 0 0 2\n0 0 1 1\n0 0 2 2305843009213693951\n0 0 3 127\n0 0 4 1\n") 0
    -- the order of the tests: 3 before 4, 4 before 5, 5 before 6, 6 before 16, 16 before 7
    ∷ prove (with_settings "0 0 0 -2\n0 0 1 9\n0 0 2 16\n0 0 3 0\n0 0 4 0\n") 3
    ∷ prove (with_settings "0 0 0 2\n0 0 1 -1\n0 0 2 16\n0 0 3 0\n0 0 4 0\n") 4
    ∷ prove (with_settings "0 0 0 2\n0 0 1 1\n0 0 2 16\n0 0 3 0\n0 0 4 0\n") 5
    ∷ prove (names ++ bound_and_rows "0" "0") 6
    ∷ prove (names ++ bound_and_rows "1" "0") 16
    ∷ verify (names ++ bound_and_rows "1" "5" ++ "1 0 0 17\n") 16
    -- 7: a line missing, added, repeated, out of order, or of another part
    ∷ prove (names ++ settings) 7
    ∷ prove (input "1 0 0 3\n1 0 1 5\n1 1 0 7\n" message challenge) 7
    ∷ prove (input key message "") 7
    ∷ prove (input key message "5 0 0 1\n5 1 0 1\n") 7
    ∷ prove (input key message "5 0 0 1\n5 0 0 1\n") 7
    ∷ prove (input "1 0 1 5\n1 0 0 3\n1 1 0 7\n1 1 1 2\n" message challenge) 7
    ∷ prove (input "1 0 0 3\n1 1 0 7\n1 0 1 5\n1 1 1 2\n" message challenge) 7
    ∷ prove (input message key challenge) 7
    ∷ prove (input key message "7 0 0 1\n") 7
    ∷ prove (input key message (challenge ++ "7 0 0 1\n")) 7
    ∷ prove (input key message (commitment ++ challenge)) 7
    ∷ prove (with_settings (settings ++ "0 0 5 1\n")) 7
    ∷ prove (with_settings (settings ++ settings)) 7
    ∷ prove (with_settings no_depth) 7
    ∷ verify (names ++ settings ++ key ++ message ++ commitment ++ rounds ++ challenge ++ final ++ claim) 7
    ∷ verify (names ++ settings ++ key ++ commitment ++ rounds ++ challenge ++ claim ++ final) 7
    ∷ verify (names ++ settings ++ key ++ commitment ++ rounds ++ challenge ++ final) 7
    ∷ verify listing 7
    -- 7: the lines of fewer rows, of more, and of a key whose rows alternate
    ∷ prove (with_settings (bound_and_rows "1" "2")) 7
    ∷ prove (input (key ++ weights) message challenge) 7
    ∷ prove (names ++ bound_and_rows "1" "2" ++ "1 0 0 3\n1 0 1 5\n1 2 0 5\n1 2 1 0\n1 1 0 7\n1 1 1 2\n1 3 0 7\n1 3 1 0\n" ++ message ++ challenge) 7
    ∷ prove (names ++ bound_and_rows "1" "2" ++ key ++ weights ++ message ++ challenge) 0
    -- 8: a residue that is q or below zero; 7 comes before it
    ∷ prove (input "1 0 0 3\n1 0 1 5\n1 1 0 7\n1 1 1 17\n" message challenge) 8
    ∷ prove (input "1 0 0 3\n1 0 1 5\n1 1 0 7\n1 1 1 -1\n" message challenge) 8
    ∷ prove (names ++ bound_and_rows "1" "2" ++ key ++ "1 2 0 5\n1 2 1 0\n1 3 0 7\n1 3 1 17\n" ++ message ++ challenge) 8
    ∷ prove (input "1 0 0 16\n1 0 1 0\n1 1 0 7\n1 1 1 2\n" message challenge) 0
    ∷ prove (input "1 0 0 17\n1 0 1 5\n1 1 0 7\n1 1 1 2\n" message "") 7
    ∷ verify (names ++ settings ++ key ++ "3 0 0 17\n3 0 1 4\n" ++ rounds ++ challenge ++ final ++ claim) 8
    ∷ verify (names ++ settings ++ key ++ commitment ++ "4 0 0 4\n4 0 1 1\n4 1 0 6\n4 1 1 0\n4 2 0 12\n4 2 1 -1\n" ++ challenge ++ final ++ claim) 8
    ∷ verify (names ++ settings ++ key ++ commitment ++ rounds ++ challenge ++ final ++ "7 0 0 9\n7 0 1 17\n") 8
    ∷ verify (names ++ settings ++ key ++ commitment ++ rounds ++ "5 0 0 4\n" ++ final ++ "7 0 0 9\n7 0 1 17\n") 8
    -- 9: a message coefficient beyond the bound, after 8 and before 10
    ∷ prove (input key "2 0 0 1\n2 0 1 -1\n2 1 0 1\n2 1 1 2\n" challenge) 9
    ∷ prove (input key "2 0 0 1\n2 0 1 -2\n2 1 0 1\n2 1 1 0\n" challenge) 9
    ∷ prove (input "1 0 0 3\n1 0 1 5\n1 1 0 7\n1 1 1 17\n" "2 0 0 1\n2 0 1 -1\n2 1 0 1\n2 1 1 2\n" challenge) 8
    ∷ prove (input key "2 0 0 1\n2 0 1 -1\n2 1 0 1\n2 1 1 2\n" "5 0 0 4\n") 9
    -- 10: an exponent outside 0 to 2d − 1
    ∷ prove (input key message "5 0 0 3\n") 0
    ∷ prove (input key message "5 0 0 4\n") 10
    ∷ prove (input key message "5 0 0 -1\n") 10
    ∷ []

damaged_texts : map given table ≡ map expected table
unfolding computed_text given expected
damaged_texts = refl
