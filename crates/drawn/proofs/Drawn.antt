-- Made by reference/vectors/to-antt.py from reference/vectors/small.txt: drawn cases, whose outputs come from another author's implementation.
-- For each call a table of its cases, and that the definitions give what the reference gave.
use mathlib.Core.Path.{◌≡◌, refl}
use mathlib.Core.Bool.{true, false}
use mathlib.Core.List.{List, [], ◌∷◌}
use Prim.Native.String.{◌++◌}
use lib.IntN.{pos, negsuc}
use Rattle.protocol.specs.Answers.Verdict.{Silent, Holds, Accepted, Rejected}
use Rattle.protocol.specs.Basic.{all}
use Rattle.protocol.specs.Rows.{Cause}
use Rattle.text_format.specs.Text.{bytes}
use Rattle.protocol.proofs.Examples.{Example, agree, agreeing}
use Rattle.protocol.proofs.Compute.{computed}
use Rattle.text_format.proofs.ComputeText.{computed_text}
use Rattle.drawn.proofs.Rows.{rows_unfolded, set, session, by_row, full_signed, seven_tables, seven_parts, commit_row, round_row, fold_row, end_row, opening_row}
use Rattle.drawn.proofs.Rows.{start_row, move_row, close_row, check_row, judge_row, extract_row, read_row, write_row, prove_row, verify_row}

unfoldable pub opening_rows : List Example
opening_rows =
    opening_row (set 2 1 17 1 1) (3 ∷ 5 ∷ 7 ∷ 2 ∷ []) (pos 1 ∷ negsuc 0 ∷ pos 1 ∷ pos 0 ∷ []) (1 ∷ []) (0 ∷ 0 ∷ 0 ∷ 0 ∷ 0 ∷ 0 ∷ []) 0 Accepted (by_row (15 ∷ 4 ∷ []) [] [] []) (pos
    1 ∷ pos 0 ∷ []) (1 ∷ 12 ∷ 7 ∷ 2 ∷ []) (pos 1 ∷ pos 0 ∷ pos 1 ∷ pos 0 ∷ []) (4 ∷ 1 ∷ 6 ∷ 0 ∷ 12 ∷ 1 ∷ [])
    ∷ opening_row (set 2 0 17 5 1) (0 ∷ 9 ∷ []) (negsuc 1 ∷ pos 3 ∷ []) [] [] 0 Accepted (by_row (7 ∷ 16 ∷ []) [] [] []) (negsuc 1 ∷ pos 3 ∷ []) (0 ∷ 9 ∷ []) (negsuc 1 ∷ pos 3 ∷
    []) []
    ∷ opening_row (set 2 2 9 1 1) (0 ∷ 8 ∷ 7 ∷ 5 ∷ 0 ∷ 2 ∷ 2 ∷ 8 ∷ []) (pos 0 ∷ negsuc 0 ∷ pos 1 ∷ pos 0 ∷ pos 1 ∷ pos 1 ∷ negsuc 0 ∷ pos 0 ∷ []) (2 ∷ 3 ∷ []) (0 ∷ 0 ∷ 0 ∷ 0 ∷ 0 ∷
    0 ∷ 0 ∷ 0 ∷ 0 ∷ 0 ∷ 0 ∷ 0 ∷ []) 0 Accepted (by_row (2 ∷ 8 ∷ []) [] [] []) (negsuc 0 ∷ negsuc 3 ∷ []) (6 ∷ 1 ∷ 5 ∷ 6 ∷ 0 ∷ 2 ∷ 2 ∷ 8 ∷ []) (negsuc 0 ∷ negsuc 3 ∷ pos 2 ∷ pos 0 ∷
    pos 1 ∷ pos 1 ∷ negsuc 0 ∷ pos 0 ∷ []) (3 ∷ 7 ∷ 8 ∷ 1 ∷ 7 ∷ 6 ∷ 3 ∷ 3 ∷ 4 ∷ 8 ∷ 7 ∷ 3 ∷ [])
    ∷ opening_row (set 4 1 2147483647 100 1) (1345365304 ∷ 1570456029 ∷ 1716693559 ∷ 2036064959 ∷ 263821038 ∷ 1804529869 ∷ 780549558 ∷ 1209587304 ∷ []) (pos 100 ∷ pos 100 ∷ negsuc
    99 ∷ negsuc 99 ∷ pos 0 ∷ negsuc 99 ∷ negsuc 99 ∷ negsuc 99 ∷ []) (0 ∷ []) (0 ∷ 0 ∷ 0 ∷ 0 ∷ 0 ∷ 0 ∷ 0 ∷ 0 ∷ 0 ∷ 0 ∷ 0 ∷ 0 ∷ []) 0 Accepted (by_row (1309023241 ∷ 1970945170 ∷
    523435185 ∷ 667134818 ∷ []) [] [] []) (pos 100 ∷ pos 0 ∷ negsuc 199 ∷ negsuc 199 ∷ []) (1609186342 ∷ 1227502251 ∷ 349759470 ∷ 1098168616 ∷ 263821038 ∷ 1804529869 ∷ 780549558 ∷
    1209587304 ∷ []) (pos 100 ∷ pos 0 ∷ negsuc 199 ∷ negsuc 199 ∷ pos 0 ∷ negsuc 99 ∷ negsuc 99 ∷ negsuc 99 ∷ []) (973477830 ∷ 569027265 ∷ 1323966626 ∷ 1044669957 ∷ 234034586 ∷
    1171502100 ∷ 1557963483 ∷ 686754320 ∷ 754775614 ∷ 416445320 ∷ 11492790 ∷ 1436381099 ∷ [])
    ∷ opening_row (set 2 1 17 2 1) (0 ∷ 1 ∷ 4611686018427387920 ∷ 0 ∷ []) (negsuc 2147483647 ∷ negsuc 0 ∷ pos 1 ∷ pos 2 ∷ []) (2 ∷ []) (0 ∷ 0 ∷ 0 ∷ 0 ∷ 0 ∷ 0 ∷ []) 8 Silent (by_row
    (0 ∷ 0 ∷ []) [] [] []) (pos 0 ∷ pos 0 ∷ []) (0 ∷ 1 ∷ 4611686018427387920 ∷ 0 ∷ []) (negsuc 2147483647 ∷ negsuc 0 ∷ pos 1 ∷ pos 2 ∷ []) (0 ∷ 0 ∷ 0 ∷ 0 ∷ 0 ∷ 0 ∷ [])
    ∷ opening_row (set 2 1 2305843009213693951 127 1) (2305843009213693950 ∷ 2305843009213693950 ∷ 2305843009213693950 ∷ 2305843009213693950 ∷ []) (pos 22 ∷ pos 75 ∷ negsuc 30 ∷
    pos 4 ∷ []) (3 ∷ []) (0 ∷ 0 ∷ 0 ∷ 0 ∷ 0 ∷ 0 ∷ []) 0 Accepted (by_row (88 ∷ 2305843009213693881 ∷ []) [] [] []) (pos 26 ∷ pos 106 ∷ []) (2305843009213693949 ∷ 0 ∷
    2305843009213693950 ∷ 2305843009213693950 ∷ []) (pos 26 ∷ pos 106 ∷ negsuc 30 ∷ pos 4 ∷ []) (1152921504606847002 ∷ 1152921504606846927 ∷ 44 ∷ 2305843009213693916 ∷
    1152921504606846993 ∷ 1152921504606846989 ∷ [])
    ∷ opening_row (set 2 1 17 1 2) (3 ∷ 5 ∷ 7 ∷ 2 ∷ 2 ∷ 0 ∷ 5 ∷ 0 ∷ []) (pos 1 ∷ negsuc 0 ∷ pos 1 ∷ pos 0 ∷ []) (1 ∷ []) (0 ∷ 0 ∷ 0 ∷ 0 ∷ 0 ∷ 0 ∷ 0 ∷ 0 ∷ 0 ∷ 0 ∷ 0 ∷ 0 ∷ []) 0
    Accepted (by_row (15 ∷ 4 ∷ []) (7 ∷ 15 ∷ []) [] []) (pos 1 ∷ pos 0 ∷ []) (1 ∷ 12 ∷ 7 ∷ 2 ∷ 2 ∷ 5 ∷ 5 ∷ 0 ∷ []) (pos 1 ∷ pos 0 ∷ pos 1 ∷ pos 0 ∷ []) (4 ∷ 1 ∷ 1 ∷ 16 ∷ 6 ∷ 0 ∷ 12
    ∷ 6 ∷ 12 ∷ 1 ∷ 11 ∷ 0 ∷ [])
    ∷ opening_row (set 2 2 15 2 3) (0 ∷ 14 ∷ 0 ∷ 14 ∷ 1 ∷ 0 ∷ 1 ∷ 14 ∷ 0 ∷ 0 ∷ 14 ∷ 14 ∷ 1 ∷ 0 ∷ 1 ∷ 1 ∷ 1 ∷ 0 ∷ 0 ∷ 0 ∷ 14 ∷ 0 ∷ 0 ∷ 14 ∷ []) (pos 0 ∷ pos 1 ∷ pos 1 ∷ pos 1 ∷ pos
    0 ∷ pos 0 ∷ pos 2 ∷ pos 2 ∷ []) (2 ∷ 3 ∷ []) (0 ∷ 0 ∷ 0 ∷ 0 ∷ 0 ∷ 0 ∷ 0 ∷ 0 ∷ 0 ∷ 0 ∷ 0 ∷ 0 ∷ 0 ∷ 0 ∷ 0 ∷ 0 ∷ 0 ∷ 0 ∷ 0 ∷ 0 ∷ 0 ∷ 0 ∷ 0 ∷ 0 ∷ 0 ∷ 0 ∷ 0 ∷ 0 ∷ 0 ∷ 0 ∷ 0 ∷ 0 ∷ 0
    ∷ 0 ∷ 0 ∷ 0 ∷ []) 0 Accepted (by_row (6 ∷ 14 ∷ []) (0 ∷ 2 ∷ []) (2 ∷ 14 ∷ []) []) (negsuc 0 ∷ pos 2 ∷ []) (14 ∷ 0 ∷ 14 ∷ 0 ∷ 1 ∷ 0 ∷ 1 ∷ 14 ∷ 12 ∷ 2 ∷ 13 ∷ 13 ∷ 1 ∷ 0 ∷ 1 ∷ 1 ∷
    3 ∷ 0 ∷ 0 ∷ 1 ∷ 14 ∷ 0 ∷ 0 ∷ 14 ∷ []) (negsuc 0 ∷ pos 2 ∷ negsuc 0 ∷ negsuc 0 ∷ pos 0 ∷ pos 0 ∷ pos 2 ∷ pos 2 ∷ []) (1 ∷ 7 ∷ 0 ∷ 14 ∷ 0 ∷ 8 ∷ 2 ∷ 7 ∷ 0 ∷ 7 ∷ 8 ∷ 14 ∷ 2 ∷ 0 ∷ 0
    ∷ 2 ∷ 1 ∷ 14 ∷ 4 ∷ 11 ∷ 0 ∷ 11 ∷ 0 ∷ 8 ∷ 0 ∷ 4 ∷ 12 ∷ 11 ∷ 3 ∷ 7 ∷ 4 ∷ 4 ∷ 0 ∷ 1 ∷ 4 ∷ 11 ∷ [])
    ∷ opening_row (set 2 1 17 1 5) (3 ∷ 5 ∷ 7 ∷ 2 ∷ []) (pos 1 ∷ negsuc 0 ∷ pos 1 ∷ pos 0 ∷ []) (1 ∷ []) (0 ∷ 0 ∷ 0 ∷ 0 ∷ 0 ∷ 0 ∷ []) 16 Silent (by_row (0 ∷ 0 ∷ []) (0 ∷ 0 ∷ []) (0
    ∷ 0 ∷ []) (0 ∷ 0 ∷ [])) (pos 0 ∷ pos 0 ∷ []) (3 ∷ 5 ∷ 7 ∷ 2 ∷ []) (pos 1 ∷ negsuc 0 ∷ pos 1 ∷ pos 0 ∷ []) (0 ∷ 0 ∷ 0 ∷ 0 ∷ 0 ∷ 0 ∷ [])
    ∷ []

pub opening_rows-agree : all agree opening_rows ≡ true
unfolding computed computed_text agreeing rows_unfolded opening_rows
opening_rows-agree = refl

unfoldable pub commit_rows : List Example
commit_rows =
    commit_row (set 4 0 9 3 1) (8 ∷ 1 ∷ 8 ∷ 0 ∷ []) (pos 3 ∷ pos 3 ∷ pos 3 ∷ pos 3 ∷ []) 0 (by_row (6 ∷ 3 ∷ 6 ∷ 6 ∷ []) [] [] [])
    ∷ commit_row (set 2 2 2147483629 127 1) (250343486 ∷ 543238449 ∷ 1557465925 ∷ 374805206 ∷ 357379797 ∷ 896756569 ∷ 6201858 ∷ 2120475292 ∷ []) (negsuc 40 ∷ negsuc 37 ∷ negsuc 24
    ∷ negsuc 65 ∷ negsuc 87 ∷ negsuc 126 ∷ pos 124 ∷ negsuc 33 ∷ []) 0 (by_row (1159472024 ∷ 920001555 ∷ []) [] [] [])
    ∷ commit_row (set 4 1 3 2 1) (2 ∷ 1 ∷ 0 ∷ 1 ∷ 2 ∷ 0 ∷ 2 ∷ 2 ∷ []) (pos 0 ∷ pos 2 ∷ pos 0 ∷ negsuc 1 ∷ pos 2 ∷ pos 0 ∷ pos 2 ∷ pos 2 ∷ []) 0 (by_row (0 ∷ 2 ∷ 2 ∷ 1 ∷ []) [] []
    [])
    ∷ commit_row (set 2 1 17 1 1) (3 ∷ 5 ∷ 7 ∷ 2 ∷ []) (pos 1 ∷ negsuc 0 ∷ pos 1 ∷ pos 0 ∷ []) 0 (by_row (15 ∷ 4 ∷ []) [] [] [])
    ∷ commit_row (set 2 1 4294967297 3 1) (2007777762 ∷ 2478991652 ∷ 2364700831 ∷ 1054349555 ∷ []) (negsuc 2 ∷ negsuc 1 ∷ negsuc 0 ∷ negsuc 0 ∷ []) 0 (by_row (1919266039 ∷
    2308288322 ∷ []) [] [] [])
    ∷ commit_row (set 2 1 2305843009213693951 1 2) (3 ∷ 5 ∷ 7 ∷ 2 ∷ 2 ∷ 0 ∷ 5 ∷ 0 ∷ []) (pos 1 ∷ negsuc 0 ∷ pos 1 ∷ pos 0 ∷ []) 0 (by_row (15 ∷ 4 ∷ []) (7 ∷ 2305843009213693949 ∷
    []) [] [])
    ∷ commit_row (set 4 0 9 3 4) (6 ∷ 0 ∷ 3 ∷ 2 ∷ 1 ∷ 8 ∷ 8 ∷ 1 ∷ 4 ∷ 4 ∷ 1 ∷ 0 ∷ 8 ∷ 8 ∷ 0 ∷ 8 ∷ []) (pos 3 ∷ pos 0 ∷ negsuc 2 ∷ pos 3 ∷ []) 0 (by_row (0 ∷ 6 ∷ 3 ∷ 6 ∷ []) (3 ∷ 3
    ∷ 0 ∷ 0 ∷ []) (3 ∷ 0 ∷ 0 ∷ 0 ∷ []) (0 ∷ 3 ∷ 6 ∷ 6 ∷ []))
    ∷ commit_row (set 2 1 17 1 0) (3 ∷ 5 ∷ 7 ∷ 2 ∷ []) (pos 1 ∷ negsuc 0 ∷ pos 1 ∷ pos 0 ∷ []) 16 (by_row [] [] [] [])
    ∷ []

pub commit_rows-agree : all agree commit_rows ≡ true
unfolding computed computed_text agreeing rows_unfolded commit_rows
commit_rows-agree = refl

unfoldable pub round_rows : List Example
round_rows =
    round_row (set 4 2 9 77 1) 0 (0 ∷ 5 ∷ 0 ∷ 5 ∷ 8 ∷ 8 ∷ 1 ∷ 2 ∷ 0 ∷ 2 ∷ 0 ∷ 5 ∷ 4 ∷ 2 ∷ 3 ∷ 5 ∷ []) (negsuc 53 ∷ negsuc 34 ∷ pos 34 ∷ negsuc 32 ∷ pos 65 ∷ pos 3 ∷ pos 9 ∷ negsuc
    45 ∷ pos 65 ∷ negsuc 54 ∷ pos 77 ∷ negsuc 0 ∷ negsuc 63 ∷ pos 55 ∷ negsuc 72 ∷ pos 7 ∷ []) 0 ((by_row (8 ∷ 3 ∷ 0 ∷ 8 ∷ []) [] [] []) ∷ (by_row (5 ∷ 0 ∷ 8 ∷ 6 ∷ []) [] [] []) ∷
    (by_row (7 ∷ 5 ∷ 4 ∷ 4 ∷ []) [] [] []) ∷ [])
    ∷ round_row (set 2 2 2147483647 127 3) 4294967295 (1479613807 ∷ 1396155233 ∷ 1470184673 ∷ 1319714131 ∷ 21488895 ∷ 1458261464 ∷ 1341323185 ∷ 1224468750 ∷ 1673793978 ∷ 940559494
    ∷ 89178637 ∷ 2058787366 ∷ 284836352 ∷ 1400139045 ∷ 1117782151 ∷ 924695850 ∷ 1906008124 ∷ 1928095062 ∷ 1847686624 ∷ 933780356 ∷ 1765187393 ∷ 1505523210 ∷ 790016291 ∷ 59838571 ∷
    []) (pos 1371779255 ∷ pos 991793902 ∷ negsuc 1283612240 ∷ negsuc 63285293 ∷ negsuc 1417224633 ∷ pos 406290801 ∷ negsuc 2115833202 ∷ negsuc 109971672 ∷ []) 11 ((by_row (0 ∷ 0 ∷
    []) (0 ∷ 0 ∷ []) (0 ∷ 0 ∷ []) []) ∷ (by_row (0 ∷ 0 ∷ []) (0 ∷ 0 ∷ []) (0 ∷ 0 ∷ []) []) ∷ (by_row (0 ∷ 0 ∷ []) (0 ∷ 0 ∷ []) (0 ∷ 0 ∷ []) []) ∷ [])
    ∷ round_row (set 2 1 17 1 1) 0 (3 ∷ 5 ∷ 7 ∷ 2 ∷ []) (pos 1 ∷ negsuc 0 ∷ pos 1 ∷ pos 0 ∷ []) 0 ((by_row (4 ∷ 1 ∷ []) [] [] []) ∷ (by_row (6 ∷ 0 ∷ []) [] [] []) ∷ (by_row (12 ∷ 1
    ∷ []) [] [] []) ∷ [])
    ∷ round_row (set 2 1 2305843009213693951 1 2) 0 (3 ∷ 5 ∷ 7 ∷ 2 ∷ 2 ∷ 0 ∷ 5 ∷ 0 ∷ []) (pos 1 ∷ negsuc 0 ∷ pos 1 ∷ pos 0 ∷ []) 0 ((by_row (4 ∷ 1 ∷ []) (1 ∷ 2305843009213693950 ∷
    []) [] []) ∷ (by_row (6 ∷ 0 ∷ []) (1152921504606846979 ∷ 1152921504606846973 ∷ []) [] []) ∷ (by_row (1152921504606846979 ∷ 1 ∷ []) (1152921504606846978 ∷ 0 ∷ []) [] []) ∷ [])
    ∷ round_row (set 2 1 17 1 2147483648) 0 (3 ∷ 5 ∷ 7 ∷ 2 ∷ []) (pos 1 ∷ negsuc 0 ∷ pos 1 ∷ pos 0 ∷ []) 16 ((by_row (0 ∷ 0 ∷ []) (0 ∷ 0 ∷ []) (0 ∷ 0 ∷ []) (0 ∷ 0 ∷ [])) ∷ (by_row
    (0 ∷ 0 ∷ []) (0 ∷ 0 ∷ []) (0 ∷ 0 ∷ []) (0 ∷ 0 ∷ [])) ∷ (by_row (0 ∷ 0 ∷ []) (0 ∷ 0 ∷ []) (0 ∷ 0 ∷ []) (0 ∷ 0 ∷ [])) ∷ [])
    ∷ []

pub round_rows-agree : all agree round_rows ≡ true
unfolding computed computed_text agreeing rows_unfolded round_rows
round_rows-agree = refl

unfoldable pub fold_rows : List Example
fold_rows =
    fold_row (set 2 1 65535 127 2) 0 3 (26802 ∷ 47490 ∷ 17999 ∷ 34172 ∷ 9117 ∷ 23032 ∷ 64556 ∷ 56440 ∷ []) (pos 127 ∷ negsuc 126 ∷ pos 127 ∷ pos 127 ∷ []) 0 (60974 ∷ 29491 ∷ 17999
    ∷ 34172 ∷ 22 ∷ 24011 ∷ 64556 ∷ 56440 ∷ []) (pos 254 ∷ negsuc 253 ∷ pos 127 ∷ pos 127 ∷ [])
    ∷ fold_row (set 4 2 1664929 1 1) 64 7 (1664928 ∷ 1664928 ∷ 1664928 ∷ 1664928 ∷ 1664928 ∷ 1664928 ∷ 1664928 ∷ 1664928 ∷ 1664928 ∷ 1664928 ∷ 1664928 ∷ 1664928 ∷ 1664928 ∷ 1664928
    ∷ 1664928 ∷ 1664928 ∷ []) (negsuc 1828276141 ∷ pos 680567116 ∷ negsuc 158233119 ∷ negsuc 1198541800 ∷ negsuc 2007090620 ∷ negsuc 468590460 ∷ negsuc 1167666681 ∷ pos 1680559871
    ∷ pos 6768470 ∷ negsuc 1732493605 ∷ negsuc 569622243 ∷ negsuc 1190422952 ∷ pos 1127860519 ∷ negsuc 241166382 ∷ pos 124989190 ∷ negsuc 682199597 ∷ []) 11 (1664928 ∷ 1664928 ∷
    1664928 ∷ 1664928 ∷ 1664928 ∷ 1664928 ∷ 1664928 ∷ 1664928 ∷ 1664928 ∷ 1664928 ∷ 1664928 ∷ 1664928 ∷ 1664928 ∷ 1664928 ∷ 1664928 ∷ 1664928 ∷ []) (negsuc 1828276141 ∷ pos
    680567116 ∷ negsuc 158233119 ∷ negsuc 1198541800 ∷ negsuc 2007090620 ∷ negsuc 468590460 ∷ negsuc 1167666681 ∷ pos 1680559871 ∷ pos 6768470 ∷ negsuc 1732493605 ∷ negsuc
    569622243 ∷ negsuc 1190422952 ∷ pos 1127860519 ∷ negsuc 241166382 ∷ pos 124989190 ∷ negsuc 682199597 ∷ [])
    ∷ fold_row (set 2 1 17 1 1) 0 1 (3 ∷ 5 ∷ 7 ∷ 2 ∷ []) (pos 1 ∷ negsuc 0 ∷ pos 1 ∷ pos 0 ∷ []) 0 (1 ∷ 12 ∷ 7 ∷ 2 ∷ []) (pos 1 ∷ pos 0 ∷ pos 1 ∷ pos 0 ∷ [])
    ∷ fold_row (set 2 1 2305843009213693951 1 2) 0 1 (3 ∷ 5 ∷ 7 ∷ 2 ∷ 2 ∷ 0 ∷ 5 ∷ 0 ∷ []) (pos 1 ∷ negsuc 0 ∷ pos 1 ∷ pos 0 ∷ []) 0 (1 ∷ 12 ∷ 7 ∷ 2 ∷ 2 ∷ 5 ∷ 5 ∷ 0 ∷ []) (pos 1 ∷
    pos 0 ∷ pos 1 ∷ pos 0 ∷ [])
    ∷ fold_row (set 128 1 12289 127 1) 0 255 (2980 ∷ 9428 ∷ 4149 ∷ 11327 ∷ 9911 ∷ 6200 ∷ 8446 ∷ 5529 ∷ 8590 ∷ 6894 ∷ 641 ∷ 7081 ∷ 3099 ∷ 2493 ∷ 6194 ∷ 1142 ∷ 1343 ∷ 2237 ∷ 2001 ∷
    8015 ∷ 10902 ∷ 4826 ∷ 11713 ∷ 5961 ∷ 6688 ∷ 2397 ∷ 3146 ∷ 6227 ∷ 5550 ∷ 7930 ∷ 2935 ∷ 7005 ∷ 7735 ∷ 6994 ∷ 11913 ∷ 1842 ∷ 9401 ∷ 3470 ∷ 12232 ∷ 9075 ∷ 5656 ∷ 7832 ∷ 2360 ∷ 5726
    ∷ 7570 ∷ 1631 ∷ 10577 ∷ 6468 ∷ 11130 ∷ 5971 ∷ 1224 ∷ 10206 ∷ 4858 ∷ 4898 ∷ 5743 ∷ 2877 ∷ 4444 ∷ 3693 ∷ 296 ∷ 1970 ∷ 1830 ∷ 1550 ∷ 4500 ∷ 2881 ∷ 9977 ∷ 7847 ∷ 8902 ∷ 3187 ∷ 8323
    ∷ 12145 ∷ 11521 ∷ 2840 ∷ 9203 ∷ 1005 ∷ 5545 ∷ 6630 ∷ 5551 ∷ 8541 ∷ 9272 ∷ 9013 ∷ 10583 ∷ 1738 ∷ 11414 ∷ 9351 ∷ 4786 ∷ 9875 ∷ 12272 ∷ 7746 ∷ 10386 ∷ 7573 ∷ 10958 ∷ 1899 ∷ 2610 ∷
    7192 ∷ 11357 ∷ 8142 ∷ 2657 ∷ 2190 ∷ 10919 ∷ 6058 ∷ 10586 ∷ 2216 ∷ 3184 ∷ 937 ∷ 9513 ∷ 2620 ∷ 2657 ∷ 6079 ∷ 10322 ∷ 8567 ∷ 12008 ∷ 8341 ∷ 7211 ∷ 8296 ∷ 12125 ∷ 8283 ∷ 621 ∷ 6908
    ∷ 7156 ∷ 4996 ∷ 8089 ∷ 8061 ∷ 4345 ∷ 10255 ∷ 2600 ∷ 11059 ∷ 4118 ∷ 9369 ∷ 1154 ∷ 7869 ∷ 5573 ∷ 3479 ∷ 11527 ∷ 37 ∷ 11996 ∷ 9532 ∷ 9947 ∷ 2712 ∷ 5572 ∷ 2766 ∷ 5438 ∷ 5499 ∷
    11423 ∷ 8289 ∷ 280 ∷ 3172 ∷ 4466 ∷ 10894 ∷ 10424 ∷ 4012 ∷ 4844 ∷ 6232 ∷ 6438 ∷ 7977 ∷ 10988 ∷ 11697 ∷ 4446 ∷ 7767 ∷ 5380 ∷ 11025 ∷ 12147 ∷ 6891 ∷ 12034 ∷ 2326 ∷ 4991 ∷ 7438 ∷
    7741 ∷ 2610 ∷ 537 ∷ 420 ∷ 4355 ∷ 10191 ∷ 4084 ∷ 2453 ∷ 1306 ∷ 9543 ∷ 4181 ∷ 12028 ∷ 8490 ∷ 2112 ∷ 915 ∷ 12010 ∷ 3678 ∷ 11593 ∷ 11164 ∷ 5191 ∷ 5239 ∷ 7701 ∷ 11362 ∷ 6600 ∷ 11678
    ∷ 4080 ∷ 1445 ∷ 8065 ∷ 4062 ∷ 6204 ∷ 879 ∷ 5683 ∷ 4400 ∷ 1299 ∷ 9745 ∷ 3555 ∷ 6410 ∷ 3738 ∷ 609 ∷ 9226 ∷ 10436 ∷ 4785 ∷ 8529 ∷ 10299 ∷ 2694 ∷ 3057 ∷ 3034 ∷ 6820 ∷ 3856 ∷ 6568 ∷
    666 ∷ 11978 ∷ 9139 ∷ 1237 ∷ 2845 ∷ 12049 ∷ 9616 ∷ 10697 ∷ 9653 ∷ 1453 ∷ 10354 ∷ 6659 ∷ 6221 ∷ 8751 ∷ 1812 ∷ 4631 ∷ 9888 ∷ 4940 ∷ 1151 ∷ 919 ∷ 10729 ∷ 11512 ∷ 3616 ∷ 10444 ∷
    2205 ∷ 2007 ∷ 3654 ∷ 4926 ∷ 7193 ∷ 5178 ∷ 10704 ∷ 5184 ∷ 3896 ∷ 8558 ∷ 6390 ∷ 12146 ∷ 1843 ∷ 4072 ∷ 1190 ∷ 3864 ∷ []) (pos 127 ∷ pos 127 ∷ negsuc 126 ∷ pos 0 ∷ pos 127 ∷ pos 0
    ∷ negsuc 126 ∷ pos 0 ∷ pos 0 ∷ pos 127 ∷ pos 0 ∷ pos 0 ∷ pos 0 ∷ pos 127 ∷ pos 127 ∷ pos 0 ∷ pos 0 ∷ pos 0 ∷ pos 0 ∷ pos 127 ∷ pos 0 ∷ pos 127 ∷ pos 0 ∷ pos 0 ∷ negsuc 126 ∷
    pos 127 ∷ negsuc 126 ∷ pos 127 ∷ negsuc 126 ∷ pos 127 ∷ negsuc 126 ∷ negsuc 126 ∷ pos 127 ∷ negsuc 126 ∷ pos 0 ∷ negsuc 126 ∷ pos 0 ∷ negsuc 126 ∷ pos 127 ∷ pos 0 ∷ negsuc 126
    ∷ pos 127 ∷ negsuc 126 ∷ pos 127 ∷ pos 0 ∷ pos 0 ∷ pos 127 ∷ pos 0 ∷ pos 127 ∷ pos 0 ∷ negsuc 126 ∷ pos 127 ∷ pos 0 ∷ pos 127 ∷ negsuc 126 ∷ pos 0 ∷ negsuc 126 ∷ negsuc 126 ∷
    pos 0 ∷ pos 127 ∷ pos 127 ∷ negsuc 126 ∷ pos 0 ∷ negsuc 126 ∷ negsuc 126 ∷ pos 0 ∷ pos 0 ∷ pos 127 ∷ negsuc 126 ∷ negsuc 126 ∷ pos 127 ∷ pos 127 ∷ negsuc 126 ∷ pos 127 ∷ negsuc
    126 ∷ pos 127 ∷ pos 127 ∷ pos 127 ∷ pos 127 ∷ negsuc 126 ∷ negsuc 126 ∷ negsuc 126 ∷ negsuc 126 ∷ pos 127 ∷ pos 127 ∷ pos 127 ∷ pos 0 ∷ pos 127 ∷ negsuc 126 ∷ pos 0 ∷ pos 127 ∷
    pos 127 ∷ pos 0 ∷ negsuc 126 ∷ pos 127 ∷ negsuc 126 ∷ negsuc 126 ∷ pos 127 ∷ pos 127 ∷ pos 127 ∷ pos 127 ∷ negsuc 126 ∷ negsuc 126 ∷ pos 0 ∷ pos 0 ∷ negsuc 126 ∷ pos 127 ∷ pos
    127 ∷ pos 0 ∷ pos 127 ∷ pos 127 ∷ pos 0 ∷ pos 0 ∷ pos 0 ∷ pos 0 ∷ pos 127 ∷ pos 127 ∷ negsuc 126 ∷ pos 127 ∷ pos 127 ∷ pos 127 ∷ pos 0 ∷ negsuc 126 ∷ negsuc 126 ∷ negsuc 126 ∷
    pos 127 ∷ pos 0 ∷ pos 127 ∷ negsuc 126 ∷ negsuc 126 ∷ pos 127 ∷ negsuc 126 ∷ pos 0 ∷ pos 0 ∷ negsuc 126 ∷ pos 127 ∷ pos 0 ∷ pos 0 ∷ negsuc 126 ∷ pos 0 ∷ pos 127 ∷ pos 127 ∷ pos
    127 ∷ pos 127 ∷ negsuc 126 ∷ negsuc 126 ∷ negsuc 126 ∷ negsuc 126 ∷ negsuc 126 ∷ pos 127 ∷ pos 127 ∷ negsuc 126 ∷ negsuc 126 ∷ pos 127 ∷ pos 127 ∷ negsuc 126 ∷ pos 0 ∷ pos 0 ∷
    negsuc 126 ∷ pos 0 ∷ pos 127 ∷ pos 0 ∷ negsuc 126 ∷ pos 127 ∷ negsuc 126 ∷ pos 127 ∷ negsuc 126 ∷ negsuc 126 ∷ pos 127 ∷ pos 127 ∷ pos 127 ∷ negsuc 126 ∷ negsuc 126 ∷ negsuc
    126 ∷ negsuc 126 ∷ negsuc 126 ∷ negsuc 126 ∷ negsuc 126 ∷ pos 0 ∷ pos 0 ∷ pos 127 ∷ pos 127 ∷ pos 0 ∷ pos 127 ∷ negsuc 126 ∷ pos 0 ∷ pos 0 ∷ pos 0 ∷ negsuc 126 ∷ pos 127 ∷
    negsuc 126 ∷ negsuc 126 ∷ pos 127 ∷ pos 0 ∷ pos 0 ∷ negsuc 126 ∷ negsuc 126 ∷ negsuc 126 ∷ pos 127 ∷ pos 0 ∷ pos 0 ∷ pos 0 ∷ pos 127 ∷ negsuc 126 ∷ pos 127 ∷ pos 127 ∷ pos 0 ∷
    pos 0 ∷ negsuc 126 ∷ pos 127 ∷ pos 127 ∷ negsuc 126 ∷ pos 127 ∷ pos 127 ∷ pos 0 ∷ negsuc 126 ∷ negsuc 126 ∷ pos 0 ∷ pos 0 ∷ pos 0 ∷ negsuc 126 ∷ pos 0 ∷ pos 127 ∷ pos 0 ∷
    negsuc 126 ∷ pos 127 ∷ negsuc 126 ∷ pos 127 ∷ negsuc 126 ∷ pos 0 ∷ negsuc 126 ∷ pos 0 ∷ pos 127 ∷ pos 0 ∷ negsuc 126 ∷ pos 0 ∷ pos 127 ∷ negsuc 126 ∷ pos 0 ∷ pos 0 ∷ pos 127 ∷
    negsuc 126 ∷ negsuc 126 ∷ pos 127 ∷ pos 0 ∷ pos 127 ∷ negsuc 126 ∷ pos 127 ∷ pos 0 ∷ negsuc 126 ∷ negsuc 126 ∷ pos 0 ∷ negsuc 126 ∷ pos 127 ∷ pos 0 ∷ negsuc 126 ∷ []) 0 (10849
    ∷ 2712 ∷ 7628 ∷ 10565 ∷ 9948 ∷ 5907 ∷ 5689 ∷ 3187 ∷ 11302 ∷ 177 ∷ 3407 ∷ 230 ∷ 8598 ∷ 1627 ∷ 2194 ∷ 1422 ∷ 4515 ∷ 6703 ∷ 606 ∷ 6150 ∷ 2625 ∷ 9670 ∷ 5656 ∷ 110 ∷ 2376 ∷ 1096 ∷
    2554 ∷ 10673 ∷ 1028 ∷ 1021 ∷ 1671 ∷ 6863 ∷ 2337 ∷ 6739 ∷ 1950 ∷ 6833 ∷ 4550 ∷ 11211 ∷ 2553 ∷ 9612 ∷ 6076 ∷ 12187 ∷ 262 ∷ 9810 ∷ 10023 ∷ 2937 ∷ 7831 ∷ 10649 ∷ 10869 ∷ 2172 ∷
    3336 ∷ 11121 ∷ 4579 ∷ 8576 ∷ 5047 ∷ 1752 ∷ 9635 ∷ 8932 ∷ 7997 ∷ 1043 ∷ 8430 ∷ 939 ∷ 8580 ∷ 4326 ∷ 5753 ∷ 11909 ∷ 2817 ∷ 4066 ∷ 1717 ∷ 4256 ∷ 531 ∷ 296 ∷ 469 ∷ 7415 ∷ 9283 ∷
    7239 ∷ 2488 ∷ 6688 ∷ 1768 ∷ 5253 ∷ 8593 ∷ 4432 ∷ 2182 ∷ 96 ∷ 11606 ∷ 1442 ∷ 6551 ∷ 8412 ∷ 10075 ∷ 4423 ∷ 12195 ∷ 4744 ∷ 2370 ∷ 4519 ∷ 9765 ∷ 5506 ∷ 4110 ∷ 255 ∷ 5289 ∷ 12279 ∷
    7048 ∷ 4028 ∷ 7815 ∷ 10825 ∷ 2164 ∷ 3771 ∷ 3576 ∷ 4519 ∷ 9545 ∷ 12183 ∷ 10163 ∷ 10546 ∷ 9218 ∷ 11950 ∷ 4762 ∷ 3187 ∷ 5799 ∷ 5323 ∷ 51 ∷ 8892 ∷ 4358 ∷ 2162 ∷ 4202 ∷ 12098 ∷ 6672
    ∷ 12249 ∷ 7982 ∷ 8215 ∷ 1154 ∷ 7869 ∷ 5573 ∷ 3479 ∷ 11527 ∷ 37 ∷ 11996 ∷ 9532 ∷ 9947 ∷ 2712 ∷ 5572 ∷ 2766 ∷ 5438 ∷ 5499 ∷ 11423 ∷ 8289 ∷ 280 ∷ 3172 ∷ 4466 ∷ 10894 ∷ 10424 ∷
    4012 ∷ 4844 ∷ 6232 ∷ 6438 ∷ 7977 ∷ 10988 ∷ 11697 ∷ 4446 ∷ 7767 ∷ 5380 ∷ 11025 ∷ 12147 ∷ 6891 ∷ 12034 ∷ 2326 ∷ 4991 ∷ 7438 ∷ 7741 ∷ 2610 ∷ 537 ∷ 420 ∷ 4355 ∷ 10191 ∷ 4084 ∷ 2453
    ∷ 1306 ∷ 9543 ∷ 4181 ∷ 12028 ∷ 8490 ∷ 2112 ∷ 915 ∷ 12010 ∷ 3678 ∷ 11593 ∷ 11164 ∷ 5191 ∷ 5239 ∷ 7701 ∷ 11362 ∷ 6600 ∷ 11678 ∷ 4080 ∷ 1445 ∷ 8065 ∷ 4062 ∷ 6204 ∷ 879 ∷ 5683 ∷
    4400 ∷ 1299 ∷ 9745 ∷ 3555 ∷ 6410 ∷ 3738 ∷ 609 ∷ 9226 ∷ 10436 ∷ 4785 ∷ 8529 ∷ 10299 ∷ 2694 ∷ 3057 ∷ 3034 ∷ 6820 ∷ 3856 ∷ 6568 ∷ 666 ∷ 11978 ∷ 9139 ∷ 1237 ∷ 2845 ∷ 12049 ∷ 9616 ∷
    10697 ∷ 9653 ∷ 1453 ∷ 10354 ∷ 6659 ∷ 6221 ∷ 8751 ∷ 1812 ∷ 4631 ∷ 9888 ∷ 4940 ∷ 1151 ∷ 919 ∷ 10729 ∷ 11512 ∷ 3616 ∷ 10444 ∷ 2205 ∷ 2007 ∷ 3654 ∷ 4926 ∷ 7193 ∷ 5178 ∷ 10704 ∷
    5184 ∷ 3896 ∷ 8558 ∷ 6390 ∷ 12146 ∷ 1843 ∷ 4072 ∷ 1190 ∷ 3864 ∷ []) (pos 0 ∷ pos 254 ∷ negsuc 253 ∷ pos 0 ∷ pos 127 ∷ negsuc 126 ∷ pos 0 ∷ pos 0 ∷ pos 0 ∷ pos 0 ∷ pos 0 ∷ pos
    127 ∷ pos 127 ∷ pos 254 ∷ pos 254 ∷ negsuc 126 ∷ negsuc 126 ∷ negsuc 126 ∷ negsuc 126 ∷ pos 0 ∷ pos 127 ∷ pos 254 ∷ negsuc 126 ∷ negsuc 126 ∷ pos 0 ∷ pos 254 ∷ negsuc 253 ∷ pos
    127 ∷ negsuc 126 ∷ pos 0 ∷ negsuc 126 ∷ pos 0 ∷ pos 127 ∷ negsuc 253 ∷ pos 127 ∷ negsuc 253 ∷ pos 127 ∷ negsuc 253 ∷ pos 0 ∷ pos 127 ∷ pos 0 ∷ pos 254 ∷ negsuc 253 ∷ pos 0 ∷
    negsuc 126 ∷ negsuc 126 ∷ pos 0 ∷ negsuc 126 ∷ pos 0 ∷ pos 0 ∷ negsuc 126 ∷ pos 254 ∷ pos 127 ∷ pos 127 ∷ pos 0 ∷ negsuc 126 ∷ negsuc 126 ∷ negsuc 126 ∷ pos 0 ∷ pos 0 ∷ pos 254
    ∷ negsuc 253 ∷ negsuc 126 ∷ pos 0 ∷ negsuc 126 ∷ pos 0 ∷ negsuc 126 ∷ pos 0 ∷ negsuc 253 ∷ pos 0 ∷ pos 127 ∷ pos 127 ∷ negsuc 126 ∷ pos 254 ∷ negsuc 253 ∷ pos 254 ∷ pos 254 ∷
    pos 127 ∷ pos 127 ∷ negsuc 253 ∷ pos 0 ∷ pos 0 ∷ negsuc 253 ∷ pos 254 ∷ pos 254 ∷ pos 127 ∷ negsuc 126 ∷ pos 0 ∷ negsuc 126 ∷ pos 0 ∷ pos 127 ∷ pos 0 ∷ pos 0 ∷ pos 0 ∷ pos 127
    ∷ negsuc 253 ∷ pos 0 ∷ pos 0 ∷ pos 254 ∷ pos 0 ∷ pos 127 ∷ negsuc 253 ∷ negsuc 126 ∷ pos 127 ∷ pos 0 ∷ negsuc 253 ∷ pos 127 ∷ pos 254 ∷ negsuc 126 ∷ pos 127 ∷ pos 127 ∷ pos 127
    ∷ negsuc 126 ∷ negsuc 126 ∷ pos 127 ∷ pos 127 ∷ pos 254 ∷ negsuc 253 ∷ pos 254 ∷ pos 127 ∷ pos 0 ∷ negsuc 126 ∷ negsuc 126 ∷ negsuc 253 ∷ pos 0 ∷ pos 127 ∷ negsuc 126 ∷ pos 254
    ∷ negsuc 126 ∷ negsuc 126 ∷ pos 127 ∷ negsuc 126 ∷ pos 0 ∷ pos 0 ∷ negsuc 126 ∷ pos 127 ∷ pos 0 ∷ pos 0 ∷ negsuc 126 ∷ pos 0 ∷ pos 127 ∷ pos 127 ∷ pos 127 ∷ pos 127 ∷ negsuc
    126 ∷ negsuc 126 ∷ negsuc 126 ∷ negsuc 126 ∷ negsuc 126 ∷ pos 127 ∷ pos 127 ∷ negsuc 126 ∷ negsuc 126 ∷ pos 127 ∷ pos 127 ∷ negsuc 126 ∷ pos 0 ∷ pos 0 ∷ negsuc 126 ∷ pos 0 ∷
    pos 127 ∷ pos 0 ∷ negsuc 126 ∷ pos 127 ∷ negsuc 126 ∷ pos 127 ∷ negsuc 126 ∷ negsuc 126 ∷ pos 127 ∷ pos 127 ∷ pos 127 ∷ negsuc 126 ∷ negsuc 126 ∷ negsuc 126 ∷ negsuc 126 ∷
    negsuc 126 ∷ negsuc 126 ∷ negsuc 126 ∷ pos 0 ∷ pos 0 ∷ pos 127 ∷ pos 127 ∷ pos 0 ∷ pos 127 ∷ negsuc 126 ∷ pos 0 ∷ pos 0 ∷ pos 0 ∷ negsuc 126 ∷ pos 127 ∷ negsuc 126 ∷ negsuc 126
    ∷ pos 127 ∷ pos 0 ∷ pos 0 ∷ negsuc 126 ∷ negsuc 126 ∷ negsuc 126 ∷ pos 127 ∷ pos 0 ∷ pos 0 ∷ pos 0 ∷ pos 127 ∷ negsuc 126 ∷ pos 127 ∷ pos 127 ∷ pos 0 ∷ pos 0 ∷ negsuc 126 ∷ pos
    127 ∷ pos 127 ∷ negsuc 126 ∷ pos 127 ∷ pos 127 ∷ pos 0 ∷ negsuc 126 ∷ negsuc 126 ∷ pos 0 ∷ pos 0 ∷ pos 0 ∷ negsuc 126 ∷ pos 0 ∷ pos 127 ∷ pos 0 ∷ negsuc 126 ∷ pos 127 ∷ negsuc
    126 ∷ pos 127 ∷ negsuc 126 ∷ pos 0 ∷ negsuc 126 ∷ pos 0 ∷ pos 127 ∷ pos 0 ∷ negsuc 126 ∷ pos 0 ∷ pos 127 ∷ negsuc 126 ∷ pos 0 ∷ pos 0 ∷ pos 127 ∷ negsuc 126 ∷ negsuc 126 ∷ pos
    127 ∷ pos 0 ∷ pos 127 ∷ negsuc 126 ∷ pos 127 ∷ pos 0 ∷ negsuc 126 ∷ negsuc 126 ∷ pos 0 ∷ negsuc 126 ∷ pos 127 ∷ pos 0 ∷ negsuc 126 ∷ [])
    ∷ fold_row (set 2 1 17 1 5) 0 1 (3 ∷ 5 ∷ 7 ∷ 2 ∷ []) (pos 1 ∷ negsuc 0 ∷ pos 1 ∷ pos 0 ∷ []) 16 (3 ∷ 5 ∷ 7 ∷ 2 ∷ []) (pos 1 ∷ negsuc 0 ∷ pos 1 ∷ pos 0 ∷ [])
    ∷ []

pub fold_rows-agree : all agree fold_rows ≡ true
unfolding computed computed_text agreeing rows_unfolded fold_rows
fold_rows-agree = refl

unfoldable pub end_rows : List Example
end_rows =
    end_row (set 4 1 63133781 1 1) 1 (negsuc 1 ∷ pos 2 ∷ negsuc 1 ∷ pos 2 ∷ negsuc 1948345535 ∷ negsuc 1992561586 ∷ pos 1521243514 ∷ negsuc 372662983 ∷ []) 0 (negsuc 1 ∷ pos 2 ∷
    negsuc 1 ∷ pos 2 ∷ [])
    ∷ end_row (set 2 1 366124235 1 1) 0 (negsuc 0 ∷ pos 1 ∷ pos 1 ∷ pos 0 ∷ []) 11 (pos 0 ∷ pos 0 ∷ [])
    ∷ end_row (set 2 1 17 1 1) 1 (pos 1 ∷ pos 0 ∷ pos 1 ∷ pos 0 ∷ []) 0 (pos 1 ∷ pos 0 ∷ [])
    ∷ end_row (set 2 1 2305843009213693951 1 2) 1 (pos 1 ∷ pos 0 ∷ pos 1 ∷ pos 0 ∷ []) 0 (pos 1 ∷ pos 0 ∷ [])
    ∷ end_row (set 2 1 17 1 0) 0 (pos 1 ∷ negsuc 0 ∷ pos 1 ∷ pos 0 ∷ []) 16 (pos 0 ∷ pos 0 ∷ [])
    ∷ []

pub end_rows-agree : all agree end_rows ≡ true
unfolding computed computed_text agreeing rows_unfolded end_rows
end_rows-agree = refl

unfoldable pub check_rows : List Example
check_rows =
    check_row (set 2 2 17 3 1) (by_row (11 ∷ 1 ∷ []) [] [] []) (full_signed (negsuc 5 ∷ pos 6 ∷ [])) (7 ∷ 10 ∷ 16 ∷ 4 ∷ 1 ∷ 3 ∷ 9 ∷ 12 ∷ []) (11 ∷ 11 ∷ 7 ∷ 8 ∷ 3 ∷ 15 ∷ 16 ∷ 13 ∷ 0
    ∷ 11 ∷ 13 ∷ 13 ∷ []) (2 ∷ 1 ∷ []) 0 Accepted Cause.none
    ∷ check_row (set 2 1 9 86 4) (by_row (4 ∷ 1 ∷ []) (4 ∷ 0 ∷ []) (7 ∷ 5 ∷ []) (6 ∷ 1 ∷ [])) (full_signed (pos 172 ∷ pos 172 ∷ [])) (7 ∷ 5 ∷ 8 ∷ 6 ∷ 8 ∷ 4 ∷ 4 ∷ 0 ∷ 2 ∷ 1 ∷ 5 ∷ 8
    ∷ 5 ∷ 1 ∷ 7 ∷ 8 ∷ []) (1 ∷ 3 ∷ 0 ∷ 7 ∷ 8 ∷ 6 ∷ 1 ∷ 7 ∷ 0 ∷ 8 ∷ 2 ∷ 8 ∷ 0 ∷ 1 ∷ 3 ∷ 1 ∷ 1 ∷ 2 ∷ 2 ∷ 2 ∷ 0 ∷ 1 ∷ 2 ∷ 7 ∷ []) (0 ∷ []) 0 Accepted Cause.none
    ∷ check_row (set 2 2 9 2 1) (by_row (4 ∷ 6 ∷ []) [] [] []) (full_signed (pos 4 ∷ pos 6 ∷ [])) (2 ∷ 7 ∷ 5 ∷ 2 ∷ 3 ∷ 7 ∷ 8 ∷ 5 ∷ []) (6 ∷ 0 ∷ 0 ∷ 4 ∷ 5 ∷ 4 ∷ 4 ∷ 6 ∷ 6 ∷ 7 ∷ 6 ∷
    3 ∷ []) (2 ∷ 3 ∷ []) 0 Rejected (Cause.round 1)
    ∷ check_row (set 2 2 2147483647 2 1) (by_row (988579069 ∷ 959197939 ∷ []) [] [] []) (full_signed (pos 5 ∷ negsuc 0 ∷ [])) (770358743 ∷ 7923195 ∷ 837154251 ∷ 716271168 ∷
    11234137 ∷ 113586056 ∷ 1784971218 ∷ 221080202 ∷ []) (1075311052 ∷ 371747817 ∷ 275084245 ∷ 645982414 ∷ 492720306 ∷ 1181592976 ∷ 586194660 ∷ 628002850 ∷ 490624961 ∷ 1661058192 ∷
    723726594 ∷ 1545400577 ∷ []) (0 ∷ 3 ∷ []) 0 Rejected (Cause.round 2)
    ∷ check_row (set 4 1 17 2 1) (by_row (1 ∷ 9 ∷ 5 ∷ 14 ∷ []) [] [] []) (full_signed (pos 2147483647 ∷ pos 3 ∷ negsuc 0 ∷ negsuc 0 ∷ [])) (7 ∷ 2 ∷ 7 ∷ 7 ∷ 9 ∷ 6 ∷ 16 ∷ 8 ∷ []) (6
    ∷ 1 ∷ 6 ∷ 4 ∷ 13 ∷ 0 ∷ 12 ∷ 8 ∷ 3 ∷ 12 ∷ 5 ∷ 3 ∷ []) (3 ∷ []) 0 Rejected Cause.bound
    ∷ check_row (set 2 2 3 1 1) (by_row (1 ∷ 0 ∷ []) [] [] []) (full_signed (pos 0 ∷ pos 0 ∷ [])) (0 ∷ 2 ∷ 1 ∷ 2 ∷ 1 ∷ 0 ∷ 0 ∷ 0 ∷ []) (0 ∷ 1 ∷ 2 ∷ 0 ∷ 2 ∷ 2 ∷ 0 ∷ 0 ∷ 1 ∷ 0 ∷ 0 ∷
    0 ∷ []) (2 ∷ 1 ∷ []) 0 Rejected Cause.equation
    ∷ check_row (set 4 0 17 7 1) (by_row (3 ∷ 4 ∷ 7 ∷ 1 ∷ []) [] [] []) (full_signed (pos 7 ∷ pos 7 ∷ pos 7 ∷ pos 7 ∷ [])) (16 ∷ 11 ∷ 16 ∷ 8 ∷ []) [] [] 0 Rejected Cause.equation
    ∷ check_row (set 2 1 17 1 1) (by_row (16 ∷ 16 ∷ []) [] [] []) (full_signed (negsuc 0 ∷ negsuc 1 ∷ [])) (4611686018427387920 ∷ 0 ∷ 1 ∷ 16 ∷ []) (0 ∷ 0 ∷ 16 ∷ 0 ∷ 8 ∷ 8 ∷ []) (5
    ∷ []) 8 Silent Cause.none
    ∷ check_row (set 2 1 2305843009213693951 2 1) (by_row (550071593570703414 ∷ 507627845780745693 ∷ []) [] [] []) (full_signed (pos 1 ∷ negsuc 0 ∷ [])) (1725507780924448685 ∷
    1501996156934595790 ∷ 252482449856475312 ∷ 1905282848272424424 ∷ []) (1501996156934595790 ∷ 1867344885462827380 ∷ 60270303381405735 ∷ 788683242755445216 ∷ 1078882649064449868 ∷
    826400199207974556 ∷ []) (1 ∷ []) 0 Rejected (Cause.round 1)
    ∷ check_row (set 2 2 17 2 2) (by_row (1 ∷ 13 ∷ []) (3 ∷ 8 ∷ []) [] []) (full_signed (pos 0 ∷ pos 0 ∷ [])) (0 ∷ 16 ∷ 0 ∷ 0 ∷ 0 ∷ 0 ∷ 0 ∷ 16 ∷ 0 ∷ 0 ∷ 1 ∷ 1 ∷ 0 ∷ 1 ∷ 1 ∷ 0 ∷ [])
    (8 ∷ 16 ∷ 0 ∷ 2 ∷ 9 ∷ 15 ∷ 10 ∷ 4 ∷ 1 ∷ 16 ∷ 10 ∷ 2 ∷ 0 ∷ 0 ∷ 0 ∷ 0 ∷ 0 ∷ 0 ∷ 0 ∷ 0 ∷ 0 ∷ 5 ∷ 0 ∷ 0 ∷ []) (2 ∷ 3 ∷ []) 0 Rejected (Cause.round 2)
    ∷ check_row (set 2 1 17 2 3) (by_row (6 ∷ 14 ∷ []) (4 ∷ 12 ∷ []) (15 ∷ 15 ∷ []) []) (full_signed (pos 4 ∷ negsuc 50 ∷ [])) (7 ∷ 16 ∷ 13 ∷ 8 ∷ 0 ∷ 12 ∷ 2 ∷ 11 ∷ 7 ∷ 7 ∷ 9 ∷ 9 ∷
    []) (7 ∷ 16 ∷ 0 ∷ 12 ∷ 7 ∷ 7 ∷ 3 ∷ 7 ∷ 2 ∷ 6 ∷ 16 ∷ 16 ∷ 13 ∷ 8 ∷ 2 ∷ 11 ∷ 9 ∷ 9 ∷ []) (0 ∷ []) 0 Rejected Cause.bound
    ∷ check_row (set 2 1 17 2 4) (by_row (9 ∷ 13 ∷ []) (6 ∷ 2 ∷ []) (13 ∷ 13 ∷ []) (8 ∷ 2 ∷ [])) (full_signed (pos 0 ∷ pos 0 ∷ [])) (15 ∷ 16 ∷ 0 ∷ 5 ∷ 9 ∷ 4 ∷ 7 ∷ 0 ∷ 6 ∷ 8 ∷ 6 ∷
    12 ∷ 9 ∷ 4 ∷ 6 ∷ 16 ∷ []) (7 ∷ 9 ∷ 15 ∷ 6 ∷ 7 ∷ 1 ∷ 15 ∷ 6 ∷ 4 ∷ 2 ∷ 14 ∷ 16 ∷ 2 ∷ 2 ∷ 11 ∷ 16 ∷ 6 ∷ 6 ∷ 5 ∷ 12 ∷ 8 ∷ 14 ∷ 6 ∷ 12 ∷ []) (0 ∷ []) 0 Rejected Cause.equation
    ∷ check_row (set 2 1 17 1 2) (by_row (15 ∷ 4 ∷ []) (7 ∷ 15 ∷ []) (17 ∷ 17 ∷ []) (17 ∷ 17 ∷ [])) (full_signed (pos 1 ∷ pos 0 ∷ [])) (3 ∷ 5 ∷ 7 ∷ 2 ∷ 2 ∷ 0 ∷ 5 ∷ 0 ∷ []) (4 ∷ 1 ∷
    1 ∷ 16 ∷ 6 ∷ 0 ∷ 12 ∷ 6 ∷ 12 ∷ 1 ∷ 11 ∷ 0 ∷ []) (1 ∷ []) 0 Accepted Cause.none
    ∷ check_row (set 2 1 17 1 0) (by_row (9 ∷ 6 ∷ []) [] [] []) (full_signed (pos 0 ∷ pos 0 ∷ [])) (13 ∷ 12 ∷ 3 ∷ 13 ∷ []) (4 ∷ 8 ∷ 4 ∷ 14 ∷ 9 ∷ 12 ∷ []) (0 ∷ []) 16 Silent
    Cause.none
    ∷ []

pub check_rows-agree : all agree check_rows ≡ true
unfolding computed computed_text agreeing rows_unfolded check_rows
check_rows-agree = refl

unfoldable pub judge_rows : List Example
judge_rows =
    judge_row (set 2 1 65535 1 4) (by_row (50662 ∷ 49765 ∷ []) (12811 ∷ 59396 ∷ []) (44365 ∷ 60244 ∷ []) (19291 ∷ 21223 ∷ [])) 16 (6545 ∷ 13168 ∷ 40357 ∷ 61775 ∷ 53950 ∷ 10597 ∷
    3830 ∷ 44969 ∷ 5969 ∷ 19316 ∷ 39662 ∷ 1266 ∷ 53000 ∷ 18603 ∷ 17223 ∷ 50932 ∷ []) (pos 16 ∷ pos 0 ∷ pos 16 ∷ pos 16 ∷ []) 0 true
    ∷ judge_row (set 2 1 93 2 1) (by_row (0 ∷ 0 ∷ []) [] [] []) 2 (0 ∷ 0 ∷ 0 ∷ 0 ∷ []) (pos 97 ∷ pos 0 ∷ pos 4 ∷ pos 0 ∷ []) 0 false
    ∷ judge_row (set 4 1 3 2 1) (by_row (2 ∷ 1 ∷ 2 ∷ 2 ∷ []) [] [] []) 1 (2 ∷ 2 ∷ 0 ∷ 1 ∷ 1 ∷ 0 ∷ 1 ∷ 0 ∷ []) (negsuc 0 ∷ negsuc 0 ∷ negsuc 1 ∷ negsuc 1 ∷ pos 2 ∷ negsuc 1 ∷ pos 2
    ∷ pos 1 ∷ []) 0 false
    ∷ judge_row (set 2 1 5 2 1) (by_row (1 ∷ 3 ∷ []) [] [] []) 3860 (4 ∷ 4 ∷ 4 ∷ 4 ∷ []) (pos 2 ∷ pos 2 ∷ negsuc 1 ∷ pos 0 ∷ []) 15 false
    ∷ judge_row (set 2 1 2305843009213693951 127 1) (by_row (1022408790437277506 ∷ 1113387967160222226 ∷ []) [] [] []) 1 (216610003867177242 ∷ 415611274187619114 ∷
    869661858634773014 ∷ 554799470401036406 ∷ []) (pos 4064 ∷ pos 4064 ∷ pos 4064 ∷ pos 4063 ∷ []) 0 true
    ∷ judge_row (set 2 1 17 2 3) (by_row (0 ∷ 0 ∷ []) (12 ∷ 5 ∷ []) (0 ∷ 0 ∷ []) []) 16 (0 ∷ 0 ∷ 0 ∷ 16 ∷ 0 ∷ 1 ∷ 16 ∷ 0 ∷ 0 ∷ 0 ∷ 0 ∷ 1 ∷ []) (pos 63 ∷ pos 63 ∷ pos 0 ∷ pos 0 ∷
    []) 0 true
    ∷ judge_row (set 2 1 17 2 3) (by_row (0 ∷ 0 ∷ []) (12 ∷ 5 ∷ []) (1 ∷ 0 ∷ []) []) 16 (0 ∷ 0 ∷ 0 ∷ 16 ∷ 0 ∷ 1 ∷ 16 ∷ 0 ∷ 0 ∷ 0 ∷ 0 ∷ 1 ∷ []) (pos 63 ∷ pos 63 ∷ pos 0 ∷ pos 0 ∷
    []) 0 false
    ∷ judge_row (set 2 1 17 1 2) (by_row (15 ∷ 4 ∷ []) (7 ∷ 15 ∷ []) (17 ∷ 17 ∷ []) (17 ∷ 17 ∷ [])) 4 (3 ∷ 5 ∷ 7 ∷ 2 ∷ 2 ∷ 0 ∷ 5 ∷ 0 ∷ []) (pos 4 ∷ negsuc 3 ∷ pos 4 ∷ pos 0 ∷ []) 0
    true
    ∷ judge_row (set 2 1 17 1 5) (by_row (12 ∷ 6 ∷ []) (0 ∷ 0 ∷ []) (0 ∷ 0 ∷ []) (0 ∷ 0 ∷ [])) 2 (14 ∷ 15 ∷ 9 ∷ 12 ∷ []) (pos 32 ∷ negsuc 31 ∷ pos 31 ∷ pos 32 ∷ []) 16 false
    ∷ []

pub judge_rows-agree : all agree judge_rows ≡ true
unfolding computed computed_text agreeing rows_unfolded judge_rows
judge_rows-agree = refl

unfoldable pub extract_rows : List Example
extract_rows =
    extract_row (set 2 0 17 1 1) (by_row (3 ∷ 7 ∷ []) [] [] []) (10 ∷ 3 ∷ []) [] [] (pos 0 ∷ negsuc 0 ∷ []) (pos 0 ∷ pos 0 ∷ []) 0 (pos 0 ∷ negsuc 0 ∷ [])
    ∷ extract_row (set 2 1 9 2 1) (by_row (3 ∷ 7 ∷ []) [] [] []) (0 ∷ 1 ∷ 1 ∷ 0 ∷ []) (1 ∷ 8 ∷ 8 ∷ 4 ∷ 5 ∷ 0 ∷ []) (0 ∷ 3 ∷ 1 ∷ []) (negsuc 0 ∷ negsuc 1 ∷ negsuc 1 ∷ negsuc 2 ∷
    negsuc 1 ∷ negsuc 0 ∷ []) (pos 0 ∷ pos 0 ∷ pos 0 ∷ pos 0 ∷ []) 0 (negsuc 7 ∷ negsuc 7 ∷ pos 4 ∷ pos 0 ∷ [])
    ∷ extract_row (set 4 1 2147483647 3 1) (by_row (400919356 ∷ 1053731783 ∷ 51197437 ∷ 1140378816 ∷ []) [] [] []) (1514210245 ∷ 2093565985 ∷ 1391800582 ∷ 1379676739 ∷ 657706113 ∷
    358621719 ∷ 1114231101 ∷ 1532360107 ∷ []) (1671633219 ∷ 1998204395 ∷ 1133460758 ∷ 699969654 ∷ 1673726469 ∷ 1130956976 ∷ 1576731456 ∷ 1844572024 ∷ 676310106 ∷ 1749886967 ∷
    2113363431 ∷ 2017703401 ∷ []) (3 ∷ 1 ∷ 6 ∷ []) (pos 2 ∷ pos 6 ∷ pos 0 ∷ pos 2 ∷ negsuc 0 ∷ pos 2 ∷ pos 1 ∷ pos 0 ∷ negsuc 1 ∷ pos 5 ∷ pos 3 ∷ pos 4 ∷ []) (pos 0 ∷ pos 0 ∷ pos 0
    ∷ pos 0 ∷ pos 0 ∷ pos 0 ∷ pos 0 ∷ pos 0 ∷ []) 0 (pos 4 ∷ pos 12 ∷ pos 8 ∷ pos 12 ∷ negsuc 3 ∷ negsuc 3 ∷ negsuc 11 ∷ pos 8 ∷ [])
    ∷ extract_row (set 2 1 17 1 1) (by_row (12 ∷ 13 ∷ []) [] [] []) (15 ∷ 16 ∷ 7 ∷ 2 ∷ []) (13 ∷ 9 ∷ 12 ∷ 10 ∷ 10 ∷ 6 ∷ []) (3 ∷ 2 ∷ 1 ∷ []) (negsuc 1 ∷ negsuc 0 ∷ pos 2 ∷ pos 2 ∷
    negsuc 1 ∷ negsuc 1 ∷ []) (pos 0 ∷ pos 0 ∷ pos 0 ∷ pos 0 ∷ []) 0 (pos 6 ∷ pos 8 ∷ negsuc 15 ∷ negsuc 13 ∷ [])
    ∷ extract_row (set 4 1 9 2 1) (by_row (0 ∷ 8 ∷ 0 ∷ 1 ∷ []) [] [] []) (8 ∷ 8 ∷ 8 ∷ 8 ∷ 8 ∷ 8 ∷ 8 ∷ 8 ∷ []) (1 ∷ 0 ∷ 7 ∷ 5 ∷ 6 ∷ 4 ∷ 5 ∷ 8 ∷ 8 ∷ 4 ∷ 2 ∷ 0 ∷ []) (0 ∷ 3 ∷ 1 ∷ [])
    (pos 4 ∷ negsuc 0 ∷ negsuc 2 ∷ negsuc 3 ∷ pos 2 ∷ negsuc 0 ∷ pos 4 ∷ pos 0 ∷ negsuc 0 ∷ pos 4 ∷ pos 1 ∷ pos 4 ∷ []) (pos 0 ∷ pos 0 ∷ pos 0 ∷ pos 0 ∷ pos 0 ∷ pos 0 ∷ pos 0 ∷ pos
    0 ∷ []) 0 (negsuc 3 ∷ pos 14 ∷ pos 16 ∷ negsuc 1 ∷ pos 2 ∷ negsuc 11 ∷ pos 18 ∷ pos 0 ∷ [])
    ∷ extract_row (set 2 2 3 1 1) (by_row (1 ∷ 0 ∷ []) [] [] []) (1 ∷ 0 ∷ 1 ∷ 2 ∷ 2 ∷ 1 ∷ 0 ∷ 1 ∷ []) (2 ∷ 1 ∷ 0 ∷ 2 ∷ 0 ∷ 2 ∷ 1 ∷ 1 ∷ 0 ∷ 1 ∷ 2 ∷ 0 ∷ 2 ∷ 2 ∷ 2 ∷ 0 ∷ 2 ∷ 2 ∷ 1 ∷ 0
    ∷ 2 ∷ 1 ∷ 0 ∷ 2 ∷ []) (1 ∷ 0 ∷ 2 ∷ 3 ∷ 0 ∷ 2 ∷ 0 ∷ 2 ∷ 1 ∷ 0 ∷ 1 ∷ 2 ∷ []) (pos 4 ∷ pos 4 ∷ negsuc 0 ∷ pos 0 ∷ pos 1 ∷ negsuc 0 ∷ pos 2 ∷ pos 2 ∷ pos 4 ∷ negsuc 2 ∷ pos 4 ∷ pos
    0 ∷ pos 0 ∷ pos 2 ∷ negsuc 2 ∷ pos 0 ∷ negsuc 2 ∷ pos 4 ∷ []) (pos 0 ∷ pos 0 ∷ pos 0 ∷ pos 0 ∷ pos 0 ∷ pos 0 ∷ pos 0 ∷ pos 0 ∷ []) 0 (pos 12 ∷ pos 20 ∷ pos 4 ∷ pos 12 ∷ pos 36
    ∷ negsuc 27 ∷ negsuc 19 ∷ pos 28 ∷ [])
    ∷ extract_row (set 2 1 17 2 1) (by_row (0 ∷ 0 ∷ []) [] [] []) (0 ∷ 0 ∷ 16 ∷ 0 ∷ []) (0 ∷ 0 ∷ 15 ∷ 15 ∷ 0 ∷ 0 ∷ []) (0 ∷ 2 ∷ 2 ∷ []) (pos 4 ∷ pos 4 ∷ pos 4 ∷ pos 4 ∷ pos 4 ∷ pos
    4 ∷ []) (pos 0 ∷ pos 0 ∷ pos 0 ∷ pos 0 ∷ []) 12 (pos 0 ∷ pos 0 ∷ pos 0 ∷ pos 0 ∷ [])
    ∷ extract_row (set 2 1 17 2 1) (by_row (10 ∷ 8 ∷ []) [] [] []) (9 ∷ 15 ∷ 11 ∷ 16 ∷ []) (14 ∷ 12 ∷ 10 ∷ 1 ∷ 8 ∷ 9 ∷ []) (2 ∷ 1 ∷ 3 ∷ []) (negsuc 3 ∷ negsuc 4 ∷ pos 1 ∷ pos 0 ∷
    negsuc 0 ∷ pos 3 ∷ []) (pos 0 ∷ pos 0 ∷ pos 0 ∷ pos 0 ∷ []) 13 (pos 0 ∷ pos 0 ∷ pos 0 ∷ pos 0 ∷ [])
    ∷ extract_row (set 2 1 2305843009213693951 2 1) (by_row (1462109050208438334 ∷ 1893008558391201629 ∷ []) [] [] []) (199312324229608653 ∷ 1582289913557443168 ∷
    930366849333827820 ∷ 1375872688146197007 ∷ []) (183583717232213560 ∷ 913845185803770975 ∷ 1574788484109474784 ∷ 206417225411246161 ∷ 547470807872005607 ∷ 1185580597998676815 ∷
    []) (2 ∷ 3 ∷ 0 ∷ []) (negsuc 3 ∷ pos 0 ∷ pos 4 ∷ negsuc 3 ∷ pos 0 ∷ pos 0 ∷ []) (pos 0 ∷ pos 0 ∷ pos 0 ∷ pos 0 ∷ []) 0 (negsuc 7 ∷ pos 0 ∷ pos 8 ∷ pos 0 ∷ [])
    ∷ extract_row (set 2 1 4294967297 2 1) (by_row (0 ∷ 4294967289 ∷ []) [] [] []) (4294967296 ∷ 4294967296 ∷ 4294967296 ∷ 4294967296 ∷ []) (4294967293 ∷ 2147483646 ∷ 0 ∷
    4294967293 ∷ 4 ∷ 2147483647 ∷ []) (0 ∷ 1 ∷ 2 ∷ []) (pos 4 ∷ pos 4 ∷ pos 1 ∷ negsuc 3 ∷ pos 1 ∷ pos 2 ∷ []) (pos 0 ∷ pos 0 ∷ pos 0 ∷ pos 0 ∷ []) 0 (pos 10 ∷ pos 12 ∷ pos 6 ∷ pos
    4 ∷ [])
    ∷ extract_row (set 2 1 9 2 3) (by_row (1 ∷ 6 ∷ []) (6 ∷ 4 ∷ []) (1 ∷ 5 ∷ []) []) (1 ∷ 6 ∷ 2 ∷ 6 ∷ 6 ∷ 7 ∷ 3 ∷ 5 ∷ 8 ∷ 0 ∷ 8 ∷ 2 ∷ []) (8 ∷ 1 ∷ 8 ∷ 8 ∷ 5 ∷ 6 ∷ 7 ∷ 2 ∷ 4 ∷ 1 ∷ 7
    ∷ 2 ∷ 6 ∷ 2 ∷ 4 ∷ 3 ∷ 0 ∷ 1 ∷ []) (1 ∷ 2 ∷ 3 ∷ []) (pos 3 ∷ negsuc 2 ∷ pos 4 ∷ negsuc 1 ∷ negsuc 3 ∷ pos 0 ∷ []) (pos 0 ∷ pos 0 ∷ pos 0 ∷ pos 0 ∷ []) 0 (pos 10 ∷ negsuc 21 ∷
    negsuc 17 ∷ pos 2 ∷ [])
    ∷ extract_row (set 2 1 9 2 2) (by_row (0 ∷ 3 ∷ []) (3 ∷ 0 ∷ []) [] []) (0 ∷ 8 ∷ 0 ∷ 0 ∷ 8 ∷ 0 ∷ 0 ∷ 0 ∷ []) (5 ∷ 8 ∷ 8 ∷ 4 ∷ 5 ∷ 8 ∷ 8 ∷ 4 ∷ 4 ∷ 8 ∷ 7 ∷ 5 ∷ []) (1 ∷ 0 ∷ 3 ∷
    []) (negsuc 2 ∷ pos 4 ∷ negsuc 0 ∷ pos 1 ∷ negsuc 0 ∷ pos 0 ∷ []) (pos 0 ∷ pos 0 ∷ pos 0 ∷ pos 0 ∷ []) 13 (pos 0 ∷ pos 0 ∷ pos 0 ∷ pos 0 ∷ [])
    ∷ extract_row (set 2 1 17 1 2) (by_row (15 ∷ 4 ∷ []) (7 ∷ 15 ∷ []) (17 ∷ 17 ∷ []) (17 ∷ 17 ∷ [])) (3 ∷ 5 ∷ 7 ∷ 2 ∷ 2 ∷ 0 ∷ 5 ∷ 0 ∷ []) (4 ∷ 1 ∷ 1 ∷ 16 ∷ 6 ∷ 0 ∷ 12 ∷ 6 ∷ 12 ∷ 1
    ∷ 11 ∷ 0 ∷ []) (0 ∷ 1 ∷ 2 ∷ []) (pos 2 ∷ negsuc 0 ∷ pos 1 ∷ pos 0 ∷ pos 0 ∷ negsuc 0 ∷ []) (pos 0 ∷ pos 0 ∷ pos 0 ∷ pos 0 ∷ []) 0 (pos 4 ∷ negsuc 3 ∷ pos 4 ∷ pos 0 ∷ [])
    ∷ extract_row (set 2 1 17 1 2147483648) (by_row (1 ∷ 0 ∷ []) (0 ∷ 0 ∷ []) (0 ∷ 0 ∷ []) (0 ∷ 0 ∷ [])) (0 ∷ 16 ∷ 1 ∷ 0 ∷ []) (0 ∷ 0 ∷ 0 ∷ 8 ∷ 9 ∷ 0 ∷ []) (2 ∷ 0 ∷ 1 ∷ []) (negsuc
    0 ∷ pos 0 ∷ pos 1 ∷ pos 0 ∷ negsuc 0 ∷ pos 0 ∷ []) (pos 0 ∷ pos 0 ∷ pos 0 ∷ pos 0 ∷ []) 16 (pos 0 ∷ pos 0 ∷ pos 0 ∷ pos 0 ∷ [])
    ∷ extract_row (set 2 1 17 0 2147483648) (by_row (1 ∷ 0 ∷ []) (0 ∷ 0 ∷ []) (0 ∷ 0 ∷ []) (0 ∷ 0 ∷ [])) (0 ∷ 16 ∷ 1 ∷ 0 ∷ []) (0 ∷ 0 ∷ 0 ∷ 8 ∷ 9 ∷ 0 ∷ []) (2 ∷ 0 ∷ 1 ∷ []) (negsuc
    0 ∷ pos 0 ∷ pos 1 ∷ pos 0 ∷ negsuc 0 ∷ pos 0 ∷ []) (pos 0 ∷ pos 0 ∷ pos 0 ∷ pos 0 ∷ []) 6 (pos 0 ∷ pos 0 ∷ pos 0 ∷ pos 0 ∷ [])
    ∷ []

pub extract_rows-agree : all agree extract_rows ≡ true
unfolding computed computed_text agreeing rows_unfolded extract_rows
extract_rows-agree = refl

unfoldable pub start_rows : List Example
start_rows =
    start_row (set 2 1 17 1 1) (by_row (15 ∷ 4 ∷ []) [] [] []) 0 (session (set 2 1 17 1 1) 0 (by_row (15 ∷ 4 ∷ []) [] [] []) (0 ∷ 0 ∷ 0 ∷ 0 ∷ 0 ∷ 0 ∷ 0 ∷ 0 ∷ []) false)
    ∷ start_row (set 2 1 53147 15 1) (by_row (5853 ∷ 29496 ∷ []) [] [] []) 0 (session (set 2 1 53147 15 1) 0 (by_row (5853 ∷ 29496 ∷ []) [] [] []) (0 ∷ 0 ∷ 0 ∷ 0 ∷ 0 ∷ 0 ∷ 0 ∷ 0 ∷
    []) false)
    ∷ start_row (set 2 1 2305843009213693951 1 2) (by_row (15 ∷ 4 ∷ []) (7 ∷ 2305843009213693949 ∷ []) [] []) 0 (session (set 2 1 2305843009213693951 1 2) 0 (by_row (15 ∷ 4 ∷ [])
    (7 ∷ 2305843009213693949 ∷ []) [] []) (0 ∷ 0 ∷ 0 ∷ 0 ∷ 0 ∷ 0 ∷ 0 ∷ 0 ∷ []) false)
    ∷ start_row (set 128 1 12289 127 1) (by_row (2935 ∷ 10069 ∷ 728 ∷ 809 ∷ 6472 ∷ 596 ∷ 3082 ∷ 4170 ∷ 8611 ∷ 10467 ∷ 5219 ∷ 9997 ∷ 4672 ∷ 6016 ∷ 9972 ∷ 3566 ∷ 6744 ∷ 8951 ∷ 3665 ∷
    3828 ∷ 669 ∷ 687 ∷ 7527 ∷ 11563 ∷ 5554 ∷ 10829 ∷ 7755 ∷ 2341 ∷ 7380 ∷ 9112 ∷ 2156 ∷ 9587 ∷ 7539 ∷ 10265 ∷ 5236 ∷ 71 ∷ 9637 ∷ 8971 ∷ 5349 ∷ 9587 ∷ 7802 ∷ 4239 ∷ 11471 ∷ 1936 ∷
    8370 ∷ 3385 ∷ 2453 ∷ 4748 ∷ 2884 ∷ 1935 ∷ 11728 ∷ 8083 ∷ 4338 ∷ 8947 ∷ 5133 ∷ 4674 ∷ 8578 ∷ 2935 ∷ 1574 ∷ 11100 ∷ 4994 ∷ 7271 ∷ 11086 ∷ 2743 ∷ 12061 ∷ 9493 ∷ 2341 ∷ 7078 ∷ 2176
    ∷ 1387 ∷ 1157 ∷ 5223 ∷ 4173 ∷ 10764 ∷ 7720 ∷ 8234 ∷ 11124 ∷ 11955 ∷ 3272 ∷ 2507 ∷ 11826 ∷ 10787 ∷ 8722 ∷ 1753 ∷ 3386 ∷ 7805 ∷ 12136 ∷ 9903 ∷ 11183 ∷ 1728 ∷ 6010 ∷ 2785 ∷ 9670 ∷
    6007 ∷ 7528 ∷ 8383 ∷ 1569 ∷ 3299 ∷ 7053 ∷ 8895 ∷ 8412 ∷ 5470 ∷ 9111 ∷ 6307 ∷ 8223 ∷ 5714 ∷ 2069 ∷ 8714 ∷ 5131 ∷ 7725 ∷ 7380 ∷ 3897 ∷ 7925 ∷ 8153 ∷ 611 ∷ 9299 ∷ 2577 ∷ 11937 ∷
    5708 ∷ 6806 ∷ 11274 ∷ 11810 ∷ 8487 ∷ 444 ∷ 3349 ∷ 3078 ∷ 8241 ∷ 7592 ∷ []) [] [] []) 0 (session (set 128 1 12289 127 1) 0 (by_row (2935 ∷ 10069 ∷ 728 ∷ 809 ∷ 6472 ∷ 596 ∷ 3082
    ∷ 4170 ∷ 8611 ∷ 10467 ∷ 5219 ∷ 9997 ∷ 4672 ∷ 6016 ∷ 9972 ∷ 3566 ∷ 6744 ∷ 8951 ∷ 3665 ∷ 3828 ∷ 669 ∷ 687 ∷ 7527 ∷ 11563 ∷ 5554 ∷ 10829 ∷ 7755 ∷ 2341 ∷ 7380 ∷ 9112 ∷ 2156 ∷ 9587
    ∷ 7539 ∷ 10265 ∷ 5236 ∷ 71 ∷ 9637 ∷ 8971 ∷ 5349 ∷ 9587 ∷ 7802 ∷ 4239 ∷ 11471 ∷ 1936 ∷ 8370 ∷ 3385 ∷ 2453 ∷ 4748 ∷ 2884 ∷ 1935 ∷ 11728 ∷ 8083 ∷ 4338 ∷ 8947 ∷ 5133 ∷ 4674 ∷ 8578
    ∷ 2935 ∷ 1574 ∷ 11100 ∷ 4994 ∷ 7271 ∷ 11086 ∷ 2743 ∷ 12061 ∷ 9493 ∷ 2341 ∷ 7078 ∷ 2176 ∷ 1387 ∷ 1157 ∷ 5223 ∷ 4173 ∷ 10764 ∷ 7720 ∷ 8234 ∷ 11124 ∷ 11955 ∷ 3272 ∷ 2507 ∷ 11826 ∷
    10787 ∷ 8722 ∷ 1753 ∷ 3386 ∷ 7805 ∷ 12136 ∷ 9903 ∷ 11183 ∷ 1728 ∷ 6010 ∷ 2785 ∷ 9670 ∷ 6007 ∷ 7528 ∷ 8383 ∷ 1569 ∷ 3299 ∷ 7053 ∷ 8895 ∷ 8412 ∷ 5470 ∷ 9111 ∷ 6307 ∷ 8223 ∷ 5714
    ∷ 2069 ∷ 8714 ∷ 5131 ∷ 7725 ∷ 7380 ∷ 3897 ∷ 7925 ∷ 8153 ∷ 611 ∷ 9299 ∷ 2577 ∷ 11937 ∷ 5708 ∷ 6806 ∷ 11274 ∷ 11810 ∷ 8487 ∷ 444 ∷ 3349 ∷ 3078 ∷ 8241 ∷ 7592 ∷ []) [] [] []) (0 ∷
    0 ∷ 0 ∷ 0 ∷ 0 ∷ 0 ∷ 0 ∷ 0 ∷ []) false)
    ∷ start_row (set 128 1 12287 127 1) (by_row (0 ∷ 0 ∷ 0 ∷ 0 ∷ 0 ∷ 0 ∷ 0 ∷ 0 ∷ 0 ∷ 0 ∷ 0 ∷ 0 ∷ 0 ∷ 0 ∷ 0 ∷ 0 ∷ 0 ∷ 0 ∷ 0 ∷ 0 ∷ 0 ∷ 0 ∷ 0 ∷ 0 ∷ 0 ∷ 0 ∷ 0 ∷ 0 ∷ 0 ∷ 0 ∷ 0 ∷ 0 ∷ 0 ∷
    0 ∷ 0 ∷ 0 ∷ 0 ∷ 0 ∷ 0 ∷ 0 ∷ 0 ∷ 0 ∷ 0 ∷ 0 ∷ 0 ∷ 0 ∷ 0 ∷ 0 ∷ 0 ∷ 0 ∷ 0 ∷ 0 ∷ 0 ∷ 0 ∷ 0 ∷ 0 ∷ 0 ∷ 0 ∷ 0 ∷ 0 ∷ 0 ∷ 0 ∷ 0 ∷ 0 ∷ 0 ∷ 0 ∷ 0 ∷ 0 ∷ 0 ∷ 0 ∷ 0 ∷ 0 ∷ 0 ∷ 0 ∷ 0 ∷ 0 ∷ 0 ∷
    0 ∷ 0 ∷ 0 ∷ 0 ∷ 0 ∷ 0 ∷ 0 ∷ 0 ∷ 0 ∷ 0 ∷ 0 ∷ 0 ∷ 0 ∷ 0 ∷ 0 ∷ 0 ∷ 0 ∷ 0 ∷ 0 ∷ 0 ∷ 0 ∷ 0 ∷ 0 ∷ 0 ∷ 0 ∷ 0 ∷ 0 ∷ 0 ∷ 0 ∷ 0 ∷ 0 ∷ 0 ∷ 0 ∷ 0 ∷ 0 ∷ 0 ∷ 0 ∷ 0 ∷ 0 ∷ 0 ∷ 0 ∷ 0 ∷ 0 ∷ 0 ∷
    0 ∷ 0 ∷ 0 ∷ 0 ∷ 0 ∷ 0 ∷ 0 ∷ []) [] [] []) 3 (session (set 0 0 0 0 0) 0 (by_row [] [] [] []) (0 ∷ 0 ∷ 0 ∷ 0 ∷ 0 ∷ 0 ∷ 0 ∷ 0 ∷ []) true)
    ∷ start_row (set 128 1 12288 127 1) (by_row (0 ∷ 0 ∷ 0 ∷ 0 ∷ 0 ∷ 0 ∷ 0 ∷ 0 ∷ 0 ∷ 0 ∷ 0 ∷ 0 ∷ 0 ∷ 0 ∷ 0 ∷ 0 ∷ 0 ∷ 0 ∷ 0 ∷ 0 ∷ 0 ∷ 0 ∷ 0 ∷ 0 ∷ 0 ∷ 0 ∷ 0 ∷ 0 ∷ 0 ∷ 0 ∷ 0 ∷ 0 ∷ 0 ∷
    0 ∷ 0 ∷ 0 ∷ 0 ∷ 0 ∷ 0 ∷ 0 ∷ 0 ∷ 0 ∷ 0 ∷ 0 ∷ 0 ∷ 0 ∷ 0 ∷ 0 ∷ 0 ∷ 0 ∷ 0 ∷ 0 ∷ 0 ∷ 0 ∷ 0 ∷ 0 ∷ 0 ∷ 0 ∷ 0 ∷ 0 ∷ 0 ∷ 0 ∷ 0 ∷ 0 ∷ 0 ∷ 0 ∷ 0 ∷ 0 ∷ 0 ∷ 0 ∷ 0 ∷ 0 ∷ 0 ∷ 0 ∷ 0 ∷ 0 ∷ 0 ∷
    0 ∷ 0 ∷ 0 ∷ 0 ∷ 0 ∷ 0 ∷ 0 ∷ 0 ∷ 0 ∷ 0 ∷ 0 ∷ 0 ∷ 0 ∷ 0 ∷ 0 ∷ 0 ∷ 0 ∷ 0 ∷ 0 ∷ 0 ∷ 0 ∷ 0 ∷ 0 ∷ 0 ∷ 0 ∷ 0 ∷ 0 ∷ 0 ∷ 0 ∷ 0 ∷ 0 ∷ 0 ∷ 0 ∷ 0 ∷ 0 ∷ 0 ∷ 0 ∷ 0 ∷ 0 ∷ 0 ∷ 0 ∷ 0 ∷ 0 ∷ 0 ∷
    0 ∷ 0 ∷ 0 ∷ 0 ∷ 0 ∷ 0 ∷ 0 ∷ []) [] [] []) 3 (session (set 0 0 0 0 0) 0 (by_row [] [] [] []) (0 ∷ 0 ∷ 0 ∷ 0 ∷ 0 ∷ 0 ∷ 0 ∷ 0 ∷ []) true)
    ∷ start_row (set 2 1 17 1 2) (by_row (15 ∷ 4 ∷ []) (7 ∷ 15 ∷ []) (17 ∷ 17 ∷ []) (17 ∷ 17 ∷ [])) 0 (session (set 2 1 17 1 2) 0 (by_row (15 ∷ 4 ∷ []) (7 ∷ 15 ∷ []) [] []) (0 ∷ 0
    ∷ 0 ∷ 0 ∷ 0 ∷ 0 ∷ 0 ∷ 0 ∷ []) false)
    ∷ start_row (set 2 1 17 1 5) (by_row (0 ∷ 0 ∷ []) (0 ∷ 0 ∷ []) (0 ∷ 0 ∷ []) (0 ∷ 0 ∷ [])) 16 (session (set 0 0 0 0 0) 0 (by_row [] [] [] []) (0 ∷ 0 ∷ 0 ∷ 0 ∷ 0 ∷ 0 ∷ 0 ∷ 0 ∷
    []) true)
    ∷ []

pub start_rows-agree : all agree start_rows ≡ true
unfolding computed computed_text agreeing rows_unfolded start_rows
start_rows-agree = refl

unfoldable pub move_rows : List Example
move_rows =
    move_row (session (set 2 1 17 1 1) 0 (by_row (15 ∷ 4 ∷ []) [] [] []) (0 ∷ 0 ∷ 0 ∷ 0 ∷ 0 ∷ 0 ∷ 0 ∷ 0 ∷ []) false) ((by_row (4 ∷ 1 ∷ []) [] [] []) ∷ (by_row (6 ∷ 0 ∷ []) [] []
    []) ∷ (by_row (12 ∷ 1 ∷ []) [] [] []) ∷ []) 1 0 Holds (session (set 2 1 17 1 1) 1 (by_row (9 ∷ 6 ∷ []) [] [] []) (1 ∷ 0 ∷ 0 ∷ 0 ∷ 0 ∷ 0 ∷ 0 ∷ 0 ∷ []) false)
    ∷ move_row (session (set 2 1 1953112013 2 1) 0 (by_row (49480198 ∷ 17141596 ∷ []) [] [] []) (0 ∷ 0 ∷ 0 ∷ 0 ∷ 0 ∷ 0 ∷ 0 ∷ 0 ∷ []) false) ((by_row (1628288909 ∷ 657806045 ∷ [])
    [] [] []) ∷ (by_row (916102100 ∷ 707280953 ∷ []) [] [] []) ∷ (by_row (162055877 ∷ 1303876766 ∷ []) [] [] []) ∷ []) 3 0 Rejected (session (set 2 1 1953112013 2 1) 0 (by_row
    (49480198 ∷ 17141596 ∷ []) [] [] []) (0 ∷ 0 ∷ 0 ∷ 0 ∷ 0 ∷ 0 ∷ 0 ∷ 0 ∷ []) true)
    ∷ move_row (session (set 2 1 53147 15 1) 0 (by_row (5853 ∷ 29496 ∷ []) [] [] []) (0 ∷ 0 ∷ 0 ∷ 0 ∷ 0 ∷ 0 ∷ 0 ∷ 0 ∷ []) false) ((by_row (21204 ∷ 21009 ∷ []) [] [] []) ∷ (by_row
    (13885 ∷ 50988 ∷ []) [] [] []) ∷ (by_row (8296 ∷ 46886 ∷ []) [] [] []) ∷ []) 4 10 Silent (session (set 2 1 53147 15 1) 0 (by_row (5853 ∷ 29496 ∷ []) [] [] []) (0 ∷ 0 ∷ 0 ∷ 0 ∷
    0 ∷ 0 ∷ 0 ∷ 0 ∷ []) false)
    ∷ move_row (session (set 2 1 53147 15 1) 0 (by_row (5853 ∷ 29496 ∷ []) [] [] []) (0 ∷ 0 ∷ 0 ∷ 0 ∷ 0 ∷ 0 ∷ 0 ∷ 0 ∷ []) false) ((by_row (21204 ∷ 21009 ∷ []) [] [] []) ∷ (by_row
    (13885 ∷ 50988 ∷ []) [] [] []) ∷ (by_row (8296 ∷ 46886 ∷ []) [] [] []) ∷ []) 2 0 Holds (session (set 2 1 53147 15 1) 1 (by_row (15615 ∷ 16907 ∷ []) [] [] []) (2 ∷ 0 ∷ 0 ∷ 0 ∷ 0
    ∷ 0 ∷ 0 ∷ 0 ∷ []) false)
    ∷ move_row (session (set 2 1 53147 15 1) 1 (by_row (15615 ∷ 16907 ∷ []) [] [] []) (2 ∷ 0 ∷ 0 ∷ 0 ∷ 0 ∷ 0 ∷ 0 ∷ 0 ∷ []) false) ((by_row (0 ∷ 0 ∷ []) [] [] []) ∷ (by_row
    (18446744073709551615 ∷ 0 ∷ []) [] [] []) ∷ (by_row (0 ∷ 0 ∷ []) [] [] []) ∷ []) 4 8 Silent (session (set 2 1 53147 15 1) 1 (by_row (15615 ∷ 16907 ∷ []) [] [] []) (2 ∷ 0 ∷ 0 ∷
    0 ∷ 0 ∷ 0 ∷ 0 ∷ 0 ∷ []) false)
    ∷ move_row (session (set 2 1 2305843009213693951 1 2) 0 (by_row (15 ∷ 4 ∷ []) (7 ∷ 2305843009213693949 ∷ []) [] []) (0 ∷ 0 ∷ 0 ∷ 0 ∷ 0 ∷ 0 ∷ 0 ∷ 0 ∷ []) false) ((by_row (4 ∷ 1
    ∷ []) (1 ∷ 2305843009213693950 ∷ []) [] []) ∷ (by_row (6 ∷ 0 ∷ []) (1152921504606846979 ∷ 1152921504606846973 ∷ []) [] []) ∷ (by_row (1152921504606846979 ∷ 1 ∷ [])
    (1152921504606846978 ∷ 0 ∷ []) [] []) ∷ []) 1 0 Holds (session (set 2 1 2305843009213693951 1 2) 1 (by_row (1152921504606846976 ∷ 6 ∷ []) (1 ∷ 1152921504606846978 ∷ []) [] [])
    (1 ∷ 0 ∷ 0 ∷ 0 ∷ 0 ∷ 0 ∷ 0 ∷ 0 ∷ []) false)
    ∷ move_row (session (set 2 1 17 1 2) 0 (by_row (15 ∷ 4 ∷ []) (7 ∷ 15 ∷ []) (17 ∷ 17 ∷ []) (17 ∷ 17 ∷ [])) (0 ∷ 0 ∷ 0 ∷ 0 ∷ 0 ∷ 0 ∷ 0 ∷ 0 ∷ []) false) ((by_row (4 ∷ 1 ∷ []) (1 ∷
    16 ∷ []) (17 ∷ 17 ∷ []) (17 ∷ 17 ∷ [])) ∷ (by_row (6 ∷ 0 ∷ []) (12 ∷ 6 ∷ []) (17 ∷ 17 ∷ []) (17 ∷ 17 ∷ [])) ∷ (by_row (12 ∷ 1 ∷ []) (12 ∷ 0 ∷ []) (17 ∷ 17 ∷ []) (17 ∷ 17 ∷ []))
    ∷ []) 1 0 Rejected (session (set 2 1 17 1 2) 0 (by_row (15 ∷ 4 ∷ []) (7 ∷ 15 ∷ []) (17 ∷ 17 ∷ []) (17 ∷ 17 ∷ [])) (0 ∷ 0 ∷ 0 ∷ 0 ∷ 0 ∷ 0 ∷ 0 ∷ 0 ∷ []) true)
    ∷ move_row (session (set 2 1 17 1 2) 0 (by_row (15 ∷ 4 ∷ []) (7 ∷ 15 ∷ []) (17 ∷ 17 ∷ []) (17 ∷ 17 ∷ [])) (0 ∷ 0 ∷ 0 ∷ 0 ∷ 0 ∷ 0 ∷ 0 ∷ 0 ∷ []) false) ((by_row (4 ∷ 1 ∷ []) (1 ∷
    16 ∷ []) (17 ∷ 17 ∷ []) (17 ∷ 17 ∷ [])) ∷ (by_row (6 ∷ 0 ∷ []) (12 ∷ 6 ∷ []) (17 ∷ 17 ∷ []) (17 ∷ 17 ∷ [])) ∷ (by_row (12 ∷ 1 ∷ []) (11 ∷ 0 ∷ []) (17 ∷ 17 ∷ []) (17 ∷ 17 ∷ []))
    ∷ []) 1 0 Holds (session (set 2 1 17 1 2) 1 (by_row (9 ∷ 6 ∷ []) (1 ∷ 11 ∷ []) [] []) (1 ∷ 0 ∷ 0 ∷ 0 ∷ 0 ∷ 0 ∷ 0 ∷ 0 ∷ []) false)
    ∷ move_row (session (set 2 1 17 1 2147483648) 0 (by_row (0 ∷ 0 ∷ []) (0 ∷ 0 ∷ []) (0 ∷ 0 ∷ []) (0 ∷ 0 ∷ [])) (0 ∷ 3 ∷ 0 ∷ 0 ∷ 3 ∷ 0 ∷ 2 ∷ 2 ∷ []) false) ((by_row (0 ∷ 0 ∷ [])
    (0 ∷ 0 ∷ []) (0 ∷ 0 ∷ []) (0 ∷ 0 ∷ [])) ∷ (by_row (0 ∷ 0 ∷ []) (0 ∷ 0 ∷ []) (0 ∷ 0 ∷ []) (0 ∷ 0 ∷ [])) ∷ (by_row (0 ∷ 0 ∷ []) (0 ∷ 0 ∷ []) (0 ∷ 0 ∷ []) (0 ∷ 0 ∷ [])) ∷ []) 0 16
    Silent (session (set 2 1 17 1 2147483648) 0 (by_row (0 ∷ 0 ∷ []) (0 ∷ 0 ∷ []) (0 ∷ 0 ∷ []) (0 ∷ 0 ∷ [])) (0 ∷ 3 ∷ 0 ∷ 0 ∷ 3 ∷ 0 ∷ 2 ∷ 2 ∷ []) false)
    ∷ []

pub move_rows-agree : all agree move_rows ≡ true
unfolding computed computed_text agreeing rows_unfolded move_rows
move_rows-agree = refl

unfoldable pub close_rows : List Example
close_rows =
    close_row (session (set 2 1 17 1 1) 1 (by_row (9 ∷ 6 ∷ []) [] [] []) (1 ∷ 0 ∷ 0 ∷ 0 ∷ 0 ∷ 0 ∷ 0 ∷ 0 ∷ []) false) (full_signed (pos 1 ∷ pos 0 ∷ [])) (3 ∷ 5 ∷ 7 ∷ 2 ∷ []) 0
    Accepted (session (set 2 1 17 1 1) 1 (by_row (9 ∷ 6 ∷ []) [] [] []) (1 ∷ 0 ∷ 0 ∷ 0 ∷ 0 ∷ 0 ∷ 0 ∷ 0 ∷ []) true)
    ∷ close_row (session (set 2 1 53147 15 1) 1 (by_row (15615 ∷ 16907 ∷ []) [] [] []) (2 ∷ 0 ∷ 0 ∷ 0 ∷ 0 ∷ 0 ∷ 0 ∷ 0 ∷ []) false) (full_signed (pos 31 ∷ negsuc 8 ∷ [])) (6854 ∷
    7450 ∷ 576 ∷ 44619 ∷ []) 0 Rejected (session (set 2 1 53147 15 1) 1 (by_row (15615 ∷ 16907 ∷ []) [] [] []) (2 ∷ 0 ∷ 0 ∷ 0 ∷ 0 ∷ 0 ∷ 0 ∷ 0 ∷ []) true)
    ∷ close_row (session (set 2 1 2305843009213693951 1 2) 1 (by_row (1152921504606846976 ∷ 6 ∷ []) (1 ∷ 1152921504606846978 ∷ []) [] []) (1 ∷ 0 ∷ 0 ∷ 0 ∷ 0 ∷ 0 ∷ 0 ∷ 0 ∷ [])
    false) (full_signed (pos 1 ∷ pos 0 ∷ [])) (3 ∷ 5 ∷ 7 ∷ 2 ∷ 2 ∷ 0 ∷ 5 ∷ 0 ∷ []) 0 Accepted (session (set 2 1 2305843009213693951 1 2) 1 (by_row (1152921504606846976 ∷ 6 ∷ []) (1
    ∷ 1152921504606846978 ∷ []) [] []) (1 ∷ 0 ∷ 0 ∷ 0 ∷ 0 ∷ 0 ∷ 0 ∷ 0 ∷ []) true)
    ∷ close_row (session (set 2 1 17 1 2) 1 (by_row (9 ∷ 6 ∷ []) (1 ∷ 11 ∷ []) (17 ∷ 17 ∷ []) (17 ∷ 17 ∷ [])) (1 ∷ 0 ∷ 0 ∷ 0 ∷ 0 ∷ 0 ∷ 0 ∷ 0 ∷ []) false) (full_signed (pos 1 ∷ pos
    0 ∷ [])) (3 ∷ 5 ∷ 7 ∷ 2 ∷ 2 ∷ 0 ∷ 5 ∷ 0 ∷ []) 0 Accepted (session (set 2 1 17 1 2) 1 (by_row (9 ∷ 6 ∷ []) (1 ∷ 11 ∷ []) (17 ∷ 17 ∷ []) (17 ∷ 17 ∷ [])) (1 ∷ 0 ∷ 0 ∷ 0 ∷ 0 ∷ 0 ∷
    0 ∷ 0 ∷ []) true)
    ∷ close_row (session (set 2 1 17 1 2147483648) 0 (by_row (0 ∷ 0 ∷ []) (0 ∷ 0 ∷ []) (0 ∷ 0 ∷ []) (0 ∷ 0 ∷ [])) (0 ∷ 3 ∷ 0 ∷ 0 ∷ 3 ∷ 0 ∷ 2 ∷ 2 ∷ []) false) (full_signed (pos 0 ∷
    pos 0 ∷ [])) [] 16 Silent (session (set 2 1 17 1 2147483648) 0 (by_row (0 ∷ 0 ∷ []) (0 ∷ 0 ∷ []) (0 ∷ 0 ∷ []) (0 ∷ 0 ∷ [])) (0 ∷ 3 ∷ 0 ∷ 0 ∷ 3 ∷ 0 ∷ 2 ∷ 2 ∷ []) false)
    ∷ []

pub close_rows-agree : all agree close_rows ≡ true
unfolding computed computed_text agreeing rows_unfolded close_rows
close_rows-agree = refl

unfoldable pub read_rows : List Example
read_rows =
    read_row (seven_parts true true false false true false false) (bytes
    ("part item place value\n0 0 0 2\n0 0 1 1\n0 0 2 17\n0 0 3 1\n0 0 4 1\n1 0 0 3\n1 0 1 5\n1 1 0 7\n1 1 1 2\n" ++ "2 0 0 1\n2 0 1 -1\n2 1 0 1\n2 1 1 0\n5 0 0 1\n")) (seven_tables
    (18446744073709551615 ∷ 18446744073709551615 ∷ 18446744073709551615 ∷ 18446744073709551615 ∷ []) (negsuc 2147483647 ∷ negsuc 2147483647 ∷ negsuc 2147483647 ∷ negsuc 2147483647
    ∷ []) [] [] (4294967295 ∷ []) [] []) 0 (set 2 1 17 1 1) (seven_tables (3 ∷ 5 ∷ 7 ∷ 2 ∷ []) (pos 1 ∷ negsuc 0 ∷ pos 1 ∷ pos 0 ∷ []) [] [] (1 ∷ []) [] [])
    ∷ read_row (seven_parts true true false false true false false) (bytes
    ("part item place value\n0 0 0 2\n0 0 1 1\n0 0 2 17\n0 0 3 1\n0 0 4 1\n1 0 0 3\n1 0 1 9223372036854775808\n" ++
    "1 1 0 7\n1 1 1 2\n2 0 0 1\n2 0 1 -1\n2 1 0 1\n2 1 1 0\n5 0 0 1\n")) (seven_tables (18446744073709551615 ∷ 18446744073709551615 ∷ 18446744073709551615 ∷ 18446744073709551615 ∷
    []) (negsuc 2147483647 ∷ negsuc 2147483647 ∷ negsuc 2147483647 ∷ negsuc 2147483647 ∷ []) [] [] (4294967295 ∷ []) [] []) 2 (set 0 0 0 0 0) (seven_tables (18446744073709551615 ∷
    18446744073709551615 ∷ 18446744073709551615 ∷ 18446744073709551615 ∷ []) (negsuc 2147483647 ∷ negsuc 2147483647 ∷ negsuc 2147483647 ∷ negsuc 2147483647 ∷ []) [] [] (4294967295
    ∷ []) [] [])
    ∷ read_row (seven_parts true true false false true false false) (bytes
    ("part item place value\n0 0 0 2\n0 0 1 1\n0 0 2 17\n0 0 3 1\n0 0 4 2147483647\n1 0 0 3\n1 0 1 5\n1 1 0 7\n" ++ "1 1 1 2\n2 0 0 1\n2 0 1 -1\n2 1 0 1\n2 1 1 0\n5 0 0 1\n"))
    (seven_tables (18446744073709551615 ∷ 18446744073709551615 ∷ 18446744073709551615 ∷ 18446744073709551615 ∷ []) (negsuc 2147483647 ∷ negsuc 2147483647 ∷ negsuc 2147483647 ∷
    negsuc 2147483647 ∷ []) [] [] (4294967295 ∷ []) [] []) 16 (set 0 0 0 0 0) (seven_tables (18446744073709551615 ∷ 18446744073709551615 ∷ 18446744073709551615 ∷
    18446744073709551615 ∷ []) (negsuc 2147483647 ∷ negsuc 2147483647 ∷ negsuc 2147483647 ∷ negsuc 2147483647 ∷ []) [] [] (4294967295 ∷ []) [] [])
    ∷ read_row (seven_parts true true false false true false false) (bytes
    ("part item place value\n0 0 0 2\n0 0 1 1\n0 0 2 17\n0 0 3 1\n0 0 4 1\n1 0 0 3\n1 0 1 5\n1 1 0 7\n1 1 1 2\n" ++ "2 0 0 1\n2 0 1 2\n2 1 0 1\n2 1 1 0\n5 0 0 1\n7 0 0 0\n"))
    (seven_tables (18446744073709551615 ∷ 18446744073709551615 ∷ 18446744073709551615 ∷ 18446744073709551615 ∷ []) (negsuc 2147483647 ∷ negsuc 2147483647 ∷ negsuc 2147483647 ∷
    negsuc 2147483647 ∷ []) [] [] (4294967295 ∷ []) [] []) 7 (set 0 0 0 0 0) (seven_tables (18446744073709551615 ∷ 18446744073709551615 ∷ 18446744073709551615 ∷
    18446744073709551615 ∷ []) (negsuc 2147483647 ∷ negsuc 2147483647 ∷ negsuc 2147483647 ∷ negsuc 2147483647 ∷ []) [] [] (4294967295 ∷ []) [] [])
    ∷ read_row (seven_parts true true false false true false false) (bytes
    ("part item place value\n0 0 0 2\n0 0 1 1\n0 0 2 17\n0 0 3 1\n0 0 4 1\n1 0 0 3\n1 0 1 5\n1 1 0 7\n1 1 1 4294967296\n" ++ "2 0 0 1\n2 0 1 -1\n2 1 0 1\n2 1 1 0\n5 0 0 1\n"))
    (seven_tables (18446744073709551615 ∷ 18446744073709551615 ∷ 18446744073709551615 ∷ 18446744073709551615 ∷ []) (negsuc 2147483647 ∷ negsuc 2147483647 ∷ negsuc 2147483647 ∷
    negsuc 2147483647 ∷ []) [] [] (4294967295 ∷ []) [] []) 8 (set 0 0 0 0 0) (seven_tables (18446744073709551615 ∷ 18446744073709551615 ∷ 18446744073709551615 ∷
    18446744073709551615 ∷ []) (negsuc 2147483647 ∷ negsuc 2147483647 ∷ negsuc 2147483647 ∷ negsuc 2147483647 ∷ []) [] [] (4294967295 ∷ []) [] [])
    ∷ read_row (seven_parts true true false false true false false) (bytes
    ("part item place value\n0 0 0 2\n0 0 1 1\n0 0 2 17\n0 0 3 1\n1 0 0 3\n1 0 1 5\n1 1 0 7\n1 1 1 2\n2 0 0 1\n" ++ "2 0 1 -1\n2 1 0 1\n2 1 1 0\n5 0 0 1\n")) (seven_tables
    (18446744073709551615 ∷ 18446744073709551615 ∷ 18446744073709551615 ∷ 18446744073709551615 ∷ []) (negsuc 2147483647 ∷ negsuc 2147483647 ∷ negsuc 2147483647 ∷ negsuc 2147483647
    ∷ []) [] [] (4294967295 ∷ []) [] []) 2 (set 0 0 0 0 0) (seven_tables (18446744073709551615 ∷ 18446744073709551615 ∷ 18446744073709551615 ∷ 18446744073709551615 ∷ []) (negsuc
    2147483647 ∷ negsuc 2147483647 ∷ negsuc 2147483647 ∷ negsuc 2147483647 ∷ []) [] [] (4294967295 ∷ []) [] [])
    ∷ read_row (seven_parts true true false false true false false) (bytes
    ("part item place value\n0 0 0 2\n0 0 1 1\n0 0 2 17\n0 0 3 1\n0 0 4 1\n1 0 0 2305843009213693951\n1 0 1 5\n" ++
    "1 1 0 7\n1 1 1 2\n2 0 0 1\n2 0 1 -1\n2 1 0 1\n2 1 1 0\n5 0 0 1\n")) (seven_tables (18446744073709551615 ∷ 18446744073709551615 ∷ 18446744073709551615 ∷ 18446744073709551615 ∷
    []) (negsuc 2147483647 ∷ negsuc 2147483647 ∷ negsuc 2147483647 ∷ negsuc 2147483647 ∷ []) [] [] (4294967295 ∷ []) [] []) 8 (set 0 0 0 0 0) (seven_tables (18446744073709551615 ∷
    18446744073709551615 ∷ 18446744073709551615 ∷ 18446744073709551615 ∷ []) (negsuc 2147483647 ∷ negsuc 2147483647 ∷ negsuc 2147483647 ∷ negsuc 2147483647 ∷ []) [] [] (4294967295
    ∷ []) [] [])
    ∷ read_row (seven_parts true true false false true false false) (bytes
    ("part item place value\n0 0 0 2\n0 0 1 1\n0 0 2 17\n0 0 3 1\n0 0 4 1\n1 0 0 2305843009213693952\n1 0 1 5\n" ++
    "1 1 0 7\n1 1 1 2\n2 0 0 1\n2 0 1 -1\n2 1 0 1\n2 1 1 0\n5 0 0 1\n")) (seven_tables (18446744073709551615 ∷ 18446744073709551615 ∷ 18446744073709551615 ∷ 18446744073709551615 ∷
    []) (negsuc 2147483647 ∷ negsuc 2147483647 ∷ negsuc 2147483647 ∷ negsuc 2147483647 ∷ []) [] [] (4294967295 ∷ []) [] []) 2 (set 0 0 0 0 0) (seven_tables (18446744073709551615 ∷
    18446744073709551615 ∷ 18446744073709551615 ∷ 18446744073709551615 ∷ []) (negsuc 2147483647 ∷ negsuc 2147483647 ∷ negsuc 2147483647 ∷ negsuc 2147483647 ∷ []) [] [] (4294967295
    ∷ []) [] [])
    ∷ read_row (seven_parts true true false false true false false) (bytes
    ("part item place value\n0 0 0 2\n0 0 1 1\n0 0 2 17\n0 0 3 1\n0 0 4 1\n1 0 0 3\n1 0 1 5\n1 1 0 7\n1 1 1 2\n" ++ "2 0 0 2147483648\n2 0 1 -1\n2 1 0 1\n2 1 1 0\n5 0 0 1\n"))
    (seven_tables (18446744073709551615 ∷ 18446744073709551615 ∷ 18446744073709551615 ∷ 18446744073709551615 ∷ []) (negsuc 2147483647 ∷ negsuc 2147483647 ∷ negsuc 2147483647 ∷
    negsuc 2147483647 ∷ []) [] [] (4294967295 ∷ []) [] []) 2 (set 0 0 0 0 0) (seven_tables (18446744073709551615 ∷ 18446744073709551615 ∷ 18446744073709551615 ∷
    18446744073709551615 ∷ []) (negsuc 2147483647 ∷ negsuc 2147483647 ∷ negsuc 2147483647 ∷ negsuc 2147483647 ∷ []) [] [] (4294967295 ∷ []) [] [])
    ∷ read_row (seven_parts true true false false true false false) (bytes
    ("part item place value\n0 0 0 4294967298\n0 0 1 1\n0 0 2 17\n0 0 3 1\n0 0 4 1\n1 0 0 3\n1 0 1 5\n1 1 0 7\n" ++ "1 1 1 2\n2 0 0 1\n2 0 1 -1\n2 1 0 1\n2 1 1 0\n5 0 0 1\n"))
    (seven_tables (18446744073709551615 ∷ 18446744073709551615 ∷ 18446744073709551615 ∷ 18446744073709551615 ∷ []) (negsuc 2147483647 ∷ negsuc 2147483647 ∷ negsuc 2147483647 ∷
    negsuc 2147483647 ∷ []) [] [] (4294967295 ∷ []) [] []) 3 (set 0 0 0 0 0) (seven_tables (18446744073709551615 ∷ 18446744073709551615 ∷ 18446744073709551615 ∷
    18446744073709551615 ∷ []) (negsuc 2147483647 ∷ negsuc 2147483647 ∷ negsuc 2147483647 ∷ negsuc 2147483647 ∷ []) [] [] (4294967295 ∷ []) [] [])
    ∷ read_row (seven_parts false false false false false false false) (bytes ("part item place value\n0 0 0 128\n0 0 1 1\n0 0 2 12289\n0 0 3 127\n0 0 4 1\n")) (seven_tables [] []
    [] [] [] [] []) 0 (set 128 1 12289 127 1) (seven_tables [] [] [] [] [] [] [])
    ∷ read_row (seven_parts false false false false false false false) (bytes ("part item place value\n0 0 0 128\n0 0 1 1\n0 0 2 12287\n0 0 3 127\n0 0 4 1\n")) (seven_tables [] []
    [] [] [] [] []) 3 (set 0 0 0 0 0) (seven_tables [] [] [] [] [] [] [])
    ∷ read_row (seven_parts false false false false false false false) (bytes ("part item place value\n0 0 0 128\n0 0 1 1\n0 0 2 24578\n0 0 3 127\n0 0 4 1\n")) (seven_tables [] []
    [] [] [] [] []) 3 (set 0 0 0 0 0) (seven_tables [] [] [] [] [] [] [])
    ∷ read_row (seven_parts false false false false false false true) (bytes
    ("part item place value\n0 0 0 2\n0 0 1 2\n0 0 2 17\n0 0 3 3\n0 0 4 2\n7 0 0 16\n7 0 1 3\n7 1 0 15\n7 1 1 5\n" ++ "7 2 0 10\n7 2 1 2\n7 3 0 1\n7 3 1 13\n")) (seven_tables [] []
    [] [] [] [] (18446744073709551615 ∷ 18446744073709551615 ∷ 18446744073709551615 ∷ 18446744073709551615 ∷ 18446744073709551615 ∷ 18446744073709551615 ∷ 18446744073709551615 ∷
    18446744073709551615 ∷ [])) 0 (set 2 2 17 3 2) (seven_tables [] [] [] [] [] [] (16 ∷ 3 ∷ 15 ∷ 5 ∷ 10 ∷ 2 ∷ 1 ∷ 13 ∷ []))
    ∷ read_row (seven_parts false false false false false false true) (bytes
    ("part item place value\n0 0 0 2\n0 0 1 2\n0 0 2 17\n0 0 3 3\n0 0 4 2\n7 0 0 16\n7 0 1 3\n7 1 0 15\n7 1 1 5\n" ++ "7 2 0 10\n7 2 1 2\n7 3 0 1\n7 3 1 13\n")) (seven_tables [] []
    [] [] [] [] (18446744073709551615 ∷ 18446744073709551615 ∷ 18446744073709551615 ∷ 18446744073709551615 ∷ 18446744073709551615 ∷ 18446744073709551615 ∷ 18446744073709551615 ∷
    [])) 7 (set 0 0 0 0 0) (seven_tables [] [] [] [] [] [] (18446744073709551615 ∷ 18446744073709551615 ∷ 18446744073709551615 ∷ 18446744073709551615 ∷ 18446744073709551615 ∷
    18446744073709551615 ∷ 18446744073709551615 ∷ []))
    ∷ read_row (seven_parts false false false false false false false) (bytes
    ("part item place value\n0 0 0 2\n0 0 1 2\n0 0 2 17\n0 0 3 3\n0 0 4 2\n7 0 0 16\n7 0 1 3\n7 1 0 15\n7 1 1 5\n" ++ "7 2 0 10\n7 2 1 2\n7 3 0 1\n7 3 1 13\n")) (seven_tables [] []
    [] [] [] [] (18446744073709551615 ∷ 18446744073709551615 ∷ 18446744073709551615 ∷ 18446744073709551615 ∷ 18446744073709551615 ∷ 18446744073709551615 ∷ 18446744073709551615 ∷
    18446744073709551615 ∷ [])) 7 (set 0 0 0 0 0) (seven_tables [] [] [] [] [] [] (18446744073709551615 ∷ 18446744073709551615 ∷ 18446744073709551615 ∷ 18446744073709551615 ∷
    18446744073709551615 ∷ 18446744073709551615 ∷ 18446744073709551615 ∷ 18446744073709551615 ∷ []))
    ∷ read_row (seven_parts false false false false false false false) (bytes
    ("part item place value\n0 0 0 2\n0 0 1 2\n0 0 2 17\n0 0 3 3\n0 0 4 2\n7 0 0 16\n7 0 1 3\n7 1 0 15\n7 1 1 5\n" ++ "7 2 0 10\n7 2 1 2\n7 3 0 1\n7 3 1 13\n")) (seven_tables [] []
    [] [] [] [] (18446744073709551615 ∷ 18446744073709551615 ∷ 18446744073709551615 ∷ 18446744073709551615 ∷ 18446744073709551615 ∷ 18446744073709551615 ∷ 18446744073709551615 ∷
    [])) 7 (set 0 0 0 0 0) (seven_tables [] [] [] [] [] [] (18446744073709551615 ∷ 18446744073709551615 ∷ 18446744073709551615 ∷ 18446744073709551615 ∷ 18446744073709551615 ∷
    18446744073709551615 ∷ 18446744073709551615 ∷ []))
    ∷ []

pub read_rows-agree : all agree read_rows ≡ true
unfolding computed computed_text agreeing rows_unfolded read_rows
read_rows-agree = refl

unfoldable pub prove_rows : List Example
prove_rows =
    prove_row (bytes ("part item place value\n0 0 0 2\n0 0 1 1\n0 0 2 17\n0 0 3 1\n0 0 4 1\n1 0 0 3\n1 0 1 5\n1 1 0 7\n1 1 1 2\n" ++
    "2 0 0 1\n2 0 1 -1\n2 1 0 1\n2 1 1 0\n5 0 0 1\n")) 200 170 0 169 (bytes
    ("part item place value\n0 0 0 2\n0 0 1 1\n0 0 2 17\n0 0 3 1\n0 0 4 1\n3 0 0 15\n3 0 1 4\n4 0 0 4\n4 0 1 1\n" ++
    "4 1 0 6\n4 1 1 0\n4 2 0 12\n4 2 1 1\n5 0 0 1\n6 0 0 1\n6 0 1 0\n7 0 0 9\n7 0 1 6\n"))
    ∷ prove_row (bytes ("part item place value\n0 0 0 2\n0 0 1 1\n0 0 2 2305843009213693951\n0 0 3 1\n0 0 4 1\n1 0 0 3\n1 0 1 5\n" ++
    "1 1 0 7\n1 1 1 2\n2 0 0 1\n2 0 1 -1\n2 1 0 1\n2 1 1 0\n5 0 0 1\n")) 300 170 0 221 (bytes
    ("part item place value\n0 0 0 2\n0 0 1 1\n0 0 2 2305843009213693951\n0 0 3 1\n0 0 4 1\n3 0 0 15\n3 0 1 4\n" ++
    "4 0 0 4\n4 0 1 1\n4 1 0 6\n4 1 1 0\n4 2 0 1152921504606846979\n4 2 1 1\n5 0 0 1\n6 0 0 1\n6 0 1 0\n7 0 0 1152921504606846976\n" ++ "7 0 1 6\n"))
    ∷ prove_row (bytes ("part item place value\n0 0 0 2\n0 0 1 1\n0 0 2 17\n0 0 3 1\n0 0 4 2\n1 0 0 3\n1 0 1 5\n1 1 0 7\n1 1 1 2\n" ++
    "1 2 0 2\n1 2 1 0\n1 3 0 5\n1 3 1 0\n2 0 0 1\n2 0 1 -1\n2 1 0 1\n2 1 1 0\n5 0 0 1\n")) 300 170 0 254 (bytes
    ("part item place value\n0 0 0 2\n0 0 1 1\n0 0 2 17\n0 0 3 1\n0 0 4 2\n3 0 0 15\n3 0 1 4\n3 1 0 7\n3 1 1 15\n" ++
    "4 0 0 4\n4 0 1 1\n4 1 0 1\n4 1 1 16\n4 2 0 6\n4 2 1 0\n4 3 0 12\n4 3 1 6\n4 4 0 12\n4 4 1 1\n4 5 0 11\n" ++
    "4 5 1 0\n5 0 0 1\n6 0 0 1\n6 0 1 0\n7 0 0 9\n7 0 1 6\n7 1 0 1\n7 1 1 11\n"))
    ∷ []

pub prove_rows-agree : all agree prove_rows ≡ true
unfolding computed computed_text agreeing rows_unfolded prove_rows
prove_rows-agree = refl

unfoldable pub write_rows : List Example
write_rows =
    write_row (set 2 0 2147483647 127 1) (seven_parts false false true false false true false) (seven_tables [] [] (2147483646 ∷ 0 ∷ []) [] [] (negsuc 2147483646 ∷ pos 10 ∷ []) [])
    160 170 0 125 (bytes ("part item place value\n0 0 0 2\n0 0 1 0\n0 0 2 2147483647\n0 0 3 127\n0 0 4 1\n3 0 0 2147483646\n3 0 1 0\n" ++ "6 0 0 -2147483647\n6 0 1 10\n"))
    ∷ write_row (set 2 0 2147483647 127 1) (seven_parts false false true false false true false) (seven_tables [] [] (2147483646 ∷ 0 ∷ []) [] [] (negsuc 2147483646 ∷ pos 10 ∷ [])
    []) 100 170 7 0 []
    ∷ write_row (set 2 0 2147483647 127 5) (seven_parts false false true false false true false) (seven_tables [] [] (2147483646 ∷ 0 ∷ []) [] [] (negsuc 2147483646 ∷ pos 10 ∷ [])
    []) 100 170 16 0 []
    ∷ write_row (set 2 2 17 3 2) (seven_parts false false false false false false true) (seven_tables [] [] [] [] [] [] (16 ∷ 3 ∷ 15 ∷ 5 ∷ 10 ∷ 2 ∷ 1 ∷ 13 ∷ [])) 150 170 0 131
    (bytes ("part item place value\n0 0 0 2\n0 0 1 2\n0 0 2 17\n0 0 3 3\n0 0 4 2\n7 0 0 16\n7 0 1 3\n7 1 0 15\n7 1 1 5\n" ++ "7 2 0 10\n7 2 1 2\n7 3 0 1\n7 3 1 13\n"))
    ∷ write_row (set 2 2 17 3 2) (seven_parts false false false false false false false) (seven_tables [] [] [] [] [] [] (16 ∷ 3 ∷ 15 ∷ 5 ∷ 10 ∷ 2 ∷ 1 ∷ 13 ∷ [])) 150 170 7 0 []
    ∷ write_row (set 2 2 17 3 2) (seven_parts false false false false false false true) (seven_tables [] [] [] [] [] [] (16 ∷ 3 ∷ 15 ∷ 5 ∷ 10 ∷ 2 ∷ 1 ∷ 17 ∷ [])) 150 170 8 0 []
    ∷ []

pub write_rows-agree : all agree write_rows ≡ true
unfolding computed computed_text agreeing rows_unfolded write_rows
write_rows-agree = refl

unfoldable pub verify_rows : List Example
verify_rows =
    verify_row (bytes ("part item place value\n0 0 0 2\n0 0 1 1\n0 0 2 17\n0 0 3 1\n0 0 4 1\n1 0 0 3\n1 0 1 5\n1 1 0 7\n1 1 1 2\n" ++
    "3 0 0 15\n3 0 1 4\n4 0 0 4\n4 0 1 1\n4 1 0 6\n4 1 1 0\n4 2 0 12\n4 2 1 1\n5 0 0 1\n6 0 0 1\n6 0 1 0\n" ++ "7 0 0 9\n7 0 1 6\n")) 0 Accepted
    ∷ verify_row (bytes ("part item place value\n0 0 0 2\n0 0 1 1\n0 0 2 17\n0 0 3 1\n0 0 4 2\n1 0 0 3\n1 0 1 5\n1 1 0 7\n1 1 1 2\n" ++
    "1 2 0 2\n1 2 1 0\n1 3 0 5\n1 3 1 0\n3 0 0 15\n3 0 1 4\n3 1 0 7\n3 1 1 15\n4 0 0 4\n4 0 1 1\n4 1 0 1\n" ++
    "4 1 1 16\n4 2 0 6\n4 2 1 0\n4 3 0 12\n4 3 1 6\n4 4 0 12\n4 4 1 1\n4 5 0 11\n4 5 1 0\n5 0 0 1\n6 0 0 1\n" ++ "6 0 1 0\n7 0 0 9\n7 0 1 6\n7 1 0 1\n7 1 1 11\n")) 0 Accepted
    ∷ verify_row (bytes ("part item place value\n0 0 0 2\n0 0 1 1\n0 0 2 17\n0 0 3 1\n0 0 4 2\n1 0 0 3\n1 0 1 5\n1 1 0 7\n1 1 1 2\n" ++
    "1 2 0 2\n1 2 1 0\n1 3 0 5\n1 3 1 0\n3 0 0 15\n3 0 1 4\n3 1 0 7\n3 1 1 15\n4 0 0 4\n4 0 1 1\n4 1 0 1\n" ++
    "4 1 1 16\n4 2 0 6\n4 2 1 0\n4 3 0 12\n4 3 1 6\n4 4 0 12\n4 4 1 1\n4 5 0 11\n4 5 1 0\n5 0 0 1\n6 0 0 1\n" ++ "6 0 1 0\n7 0 0 10\n7 0 1 6\n7 1 0 1\n7 1 1 11\n")) 0 Rejected
    ∷ verify_row (bytes ("part item place value\n0 0 0 2\n0 0 1 1\n0 0 2 17\n0 0 3 1\n0 0 4 2\n1 0 0 3\n1 0 1 5\n1 1 0 7\n1 1 1 2\n" ++
    "1 2 0 2\n1 2 1 0\n1 3 0 5\n1 3 1 0\n3 0 0 15\n3 0 1 4\n3 1 0 7\n3 1 1 15\n4 0 0 4\n4 0 1 1\n4 1 0 1\n" ++
    "4 1 1 16\n4 2 0 6\n4 2 1 0\n4 3 0 12\n4 3 1 6\n4 4 0 12\n4 4 1 1\n4 5 0 11\n4 5 1 0\n5 0 0 1\n6 0 0 1\n" ++ "6 0 1 0\n7 0 0 9\n7 0 1 6\n7 1 0 1\n7 1 1 0\n")) 0 Rejected
    ∷ verify_row (bytes ("part item place value\n0 0 0 2\n0 0 1 1\n0 0 2 17\n0 0 3 1\n0 0 4 2\n1 0 0 3\n1 0 1 5\n1 1 0 7\n1 1 1 2\n" ++
    "1 2 0 2\n1 2 1 0\n1 3 0 5\n1 3 1 0\n3 0 0 15\n3 0 1 4\n3 1 0 7\n3 1 1 15\n4 0 0 4\n4 0 1 1\n4 1 0 1\n" ++
    "4 1 1 16\n4 2 0 6\n4 2 1 0\n4 3 0 12\n4 3 1 6\n4 4 0 12\n4 4 1 1\n4 5 0 11\n4 5 1 0\n5 0 0 1\n6 0 0 1\n" ++ "6 0 1 0\n7 0 0 9\n7 0 1 6\n7 1 0 1\n7 1 1 17\n")) 8 Silent
    ∷ verify_row (bytes ("part item place value\n0 0 0 2\n0 0 1 1\n0 0 2 17\n0 0 3 1\n0 0 4 2\n1 0 0 3\n1 0 1 5\n1 1 0 7\n1 1 1 2\n" ++
    "1 2 0 2\n1 2 1 0\n1 3 0 5\n1 3 1 0\n3 0 0 15\n3 0 1 4\n3 1 0 7\n3 1 1 15\n4 0 0 4\n4 0 1 1\n4 1 0 1\n" ++
    "4 1 1 16\n4 2 0 6\n4 2 1 0\n4 3 0 12\n4 3 1 6\n4 4 0 12\n4 4 1 1\n4 5 0 11\n4 5 1 0\n5 0 0 1\n6 0 0 1\n" ++ "6 0 1 0\n7 0 0 9\n7 0 1 6\n7 1 0 1\n")) 7 Silent
    ∷ verify_row (bytes ("part item place value\n0 0 0 2\n0 0 1 1\n0 0 2 17\n0 0 3 1\n0 0 4 2\n1 0 0 3\n1 0 1 5\n1 1 0 7\n1 1 1 2\n" ++
    "1 2 0 2\n1 2 1 0\n1 3 0 5\n1 3 1 0\n3 0 0 15\n3 0 1 4\n3 1 0 7\n3 1 1 15\n4 0 0 4\n4 0 1 1\n4 1 0 1\n" ++
    "4 1 1 16\n4 2 0 6\n4 2 1 0\n4 3 0 12\n4 3 1 6\n4 4 0 12\n4 4 1 1\n4 5 0 11\n4 5 1 0\n5 0 0 1\n6 0 0 1\n" ++ "6 0 1 0\n7 0 0 9\n7 0 1 6\n7 1 0 1\n7 1 1 11\n7 2 0 0\n")) 7
    Silent
    ∷ verify_row (bytes ("part item place value\n0 0 0 2\n0 0 1 1\n0 0 2 17\n0 0 3 1\n0 0 4 2\n1 0 0 3\n1 0 1 5\n1 1 0 7\n1 1 1 2\n" ++
    "1 2 0 2\n1 2 1 0\n1 3 0 5\n1 3 1 0\n3 0 0 15\n3 0 1 4\n3 1 0 7\n3 1 1 15\n4 0 0 4\n4 0 1 1\n4 1 0 1\n" ++
    "4 1 1 16\n4 2 0 6\n4 2 1 0\n4 3 0 12\n4 3 1 6\n4 4 0 12\n4 4 1 1\n4 5 0 11\n4 5 1 0\n5 0 0 1\n6 0 0 1\n" ++ "6 0 1 0\n")) 7 Silent
    ∷ verify_row (bytes ("part item place value\n0 0 0 2\n0 0 1 0\n0 0 2 17\n0 0 3 1\n0 0 4 1\n1 0 0 16\n1 0 1 4\n3 0 0 13\n3 0 1 16\n" ++ "6 0 0 0\n6 0 1 1\n")) 0 Accepted
    ∷ []

pub verify_rows-agree : all agree verify_rows ≡ true
unfolding computed computed_text agreeing rows_unfolded verify_rows
verify_rows-agree = refl
