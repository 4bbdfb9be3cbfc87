-- Known texts: the listing of PROTOCOL 12.1 byte for byte, and what the calls on text give, or refuse, for texts and tables made of its pieces. One table, and
-- one proof over it. (What damaged texts are refused for is in the crate `drawn`, DamagedTexts.)
use mathlib.Core.Path.{◌≡◌, refl}
use mathlib.Core.List.{List, [], ◌∷◌, map}
use Prim.Native.Nat.{ℕ, suc, ◌<◌, ◌≤◌}
use Prim.Native.String.{◌++◌}
use native.Mathlib.Omega.{arith}
use borrow.Author.Tests.{le-leb}
use lib.ListN.{length, replicate, length-replicate}
use lib.IntN.{pos, negsuc}
use Rattle.protocol.specs.Answers.Verdict.{Silent, Accepted, Rejected}
use Rattle.protocol.specs.Basic.{first, unless, choose, tabulate}
use Rattle.text_format.specs.Text.{bytes, names as names_line, text_limit, no_settings, begins, begins_with_names, parsed, lines_of, spots_of, well_formed, look_refusal, output_refusal}
use Rattle.text_format.specs.Text.{settings_shape, shape, shape_size, spots, same_spots}
use Rattle.text_format.specs.Programs.{prove_reads, prove_prints, verify_reads, prove_output}
use Rattle.text_format.specs.ProveVerify.{key_lines, head_length, with_key}
use Rattle.text_format.proofs.ComputeText.{computed_text}
use Rattle.text_format.proofs.ReaderLaws.{too_long_to-read, too_long_to-write}
use Rattle.text_format.proofs.TextExamples.{names, settings, key, message, challenge, final, claim, input, with_final, with_claim, no_depth, wide_modulus, more_depth, listing}
use Rattle.text_format.proofs.TextExamples.{example, tables, no_parts, challenge_only, final_only, all_parts, residues₂, residues₆, claims₂, listed, final_element, lent, prove_tables}
use Rattle.text_format.proofs.TextExamples.{lent_listed, nothing, everything, deep, shallow, shallow_lent, lent_verify, lent_deep, only_challenges, only_final, widest, extremes}
use Rattle.text_format.proofs.TextExamples.{with_settings, bound_and_rows, bounded, weights, secondʷ, listingʷ, with_second, tablesʷ, lentʷ}
use Rattle.text_format.proofs.TextRows.{Row, given, expected}
use Rattle.text_format.proofs.TextRows.Row.{proves, verifies, look_gives, checks, call_refused, call_gives, read_refused, read_gives, write_refused, write_gives, back, forth, number, count}
use Rattle.text_format.proofs.TextRows.Row.{line_gives, line_refused, begun_gives}

abbrev table : List Row
table =
    -- the example
    proves (input key message challenge) listing
    ∷ verifies (with_final final) "accepted\n"
    ∷ verifies (with_final "6 0 0 2\n6 0 1 0\n") "rejected\n"
    ∷ verifies (with_final "6 0 0 3\n6 0 1 0\n") "rejected\n"
    -- a written claim is compared, and never refused for its value; the part has to be there, whole and of residues
    ∷ verifies (with_claim claim) "accepted\n"
    ∷ verifies (with_claim "7 0 0 9\n7 0 1 7\n") "rejected\n"
    ∷ verifies (with_claim "7 0 0 15\n7 0 1 4\n") "rejected\n"
    ∷ verifies (with_claim "7 0 0 17\n7 0 1 6\n") "refused 8\n"
    ∷ verifies (with_claim "7 0 0 9\n7 0 1 -1\n") "refused 8\n"
    ∷ verifies (with_claim "7 0 0 9\n") "refused 7\n"
    ∷ verifies (with_claim "") "refused 7\n"
    ∷ verifies (with_claim "7 0 0 9\n7 0 1 6\n7 1 0 9\n") "refused 7\n"
    ∷ proves (input key message challenge ++ claim) "refused 7\n"
    -- with L = 0 there are no lines of rounds and challenges
    ∷ proves (names ++ no_depth ++ "1 0 0 3\n1 0 1 5\n2 0 0 1\n2 0 1 -1\n") (names ++ no_depth ++ "3 0 0 8\n3 0 1 2\n6 0 0 1\n6 0 1 -1\n")
    ∷ verifies (names ++ no_depth ++ "1 0 0 3\n1 0 1 5\n3 0 0 8\n3 0 1 2\n6 0 0 1\n6 0 1 -1\n") "accepted\n"
    -- with the largest modulus: −1 and −5
    ∷ proves (names ++ wide_modulus ++ "1 0 0 1\n1 0 1 5\n2 0 0 -1\n2 0 1 0\n") (names ++ wide_modulus ++ "3 0 0 2305843009213693950\n3 0 1 2305843009213693946\n6 0 0 -1\n6 0 1 0\n")
    ∷ verifies (names ++ wide_modulus ++ "1 0 0 1\n1 0 1 5\n3 0 0 2305843009213693950\n3 0 1 2305843009213693946\n6 0 0 -1\n6 0 1 0\n") "accepted\n"
    -- two rows, one of weights; and one whose second row is changed
    ∷ proves (names ++ bound_and_rows "1" "2" ++ key ++ weights ++ message ++ challenge) listingʷ
    ∷ verifies (with_second secondʷ "11") "accepted\n"
    ∷ verifies (with_second secondʷ "12") "rejected\n"
    ∷ verifies (with_second "3 1 0 12\n3 1 1 13\n" "11") "rejected\n"
    ∷ verifies (with_second "3 1 0 12\n3 1 1 17\n" "11") "refused 8\n"
    ∷ verifies (with_second "" "11") "refused 7\n"
    ∷ checks (with_final final) 0 Accepted
    ∷ checks (with_final "6 0 0 2\n6 0 1 0\n") 0 Rejected
    ∷ checks (with_final "") 7 Silent
    -- a refusal is printed, and nothing else
    ∷ proves "" "refused 2\n"
    ∷ verifies "" "refused 2\n"
    ∷ proves (input key message "5 0 0 4\n") "refused 10\n"
    ∷ verifies (with_final "") "refused 7\n"
    -- `prove` as a call, on an output slice that is long enough, exactly long enough, and too short; the text comes first
    ∷ call_gives (input key message challenge) 173 169 listing
    ∷ call_gives (input key message challenge) 169 169 listing
    ∷ call_refused (input key message challenge) 168 7
    ∷ call_refused (input key message "5 0 0 4\n") 0 10
    -- a first look asks for nothing behind the settings, but that it is of the stated shape
    ∷ look_gives (names ++ settings) 0 example
    ∷ look_gives (names ++ settings ++ "9 9 9 -9\n") 0 example
    ∷ look_gives (names ++ settings ++ "9 9 9 09\n") 2 no_settings
    ∷ look_gives (names ++ "0 0 0 2\n0 0 1 1\n0 0 2 17\n0 0 3 -1\n0 0 4 1\n") 6 no_settings
    -- a setting that is too large is refused by its own number, and cut to no smaller one; past the limit of values it is no number
    ∷ look_gives (names ++ "0 0 0 4294967298\n0 0 1 1\n0 0 2 17\n0 0 3 1\n0 0 4 1\n") 3 no_settings
    ∷ look_gives (names ++ "0 0 0 2\n0 0 1 4294967297\n0 0 2 17\n0 0 3 1\n0 0 4 1\n") 4 no_settings
    ∷ look_gives (names ++ "0 0 0 2\n0 0 1 1\n0 0 2 2305843009213693950\n0 0 3 1\n0 0 4 1\n") 5 no_settings
    ∷ look_gives (names ++ "0 0 0 2\n0 0 1 1\n0 0 2 2305843009213693952\n0 0 3 1\n0 0 4 1\n") 2 no_settings
    ∷ look_gives (names ++ "0 0 0 2\n0 0 1 1\n0 0 2 -17\n0 0 3 1\n0 0 4 1\n") 5 no_settings
    ∷ look_gives (names ++ "0 0 0 2\n0 0 1 1\n0 0 2 17\n0 0 3 4294967297\n0 0 4 1\n") 6 no_settings
    -- 16 after 6, and where not all five settings lines are there 2
    ∷ look_gives (names ++ bound_and_rows "0" "0") 6 no_settings
    ∷ look_gives (names ++ bound_and_rows "1" "0") 16 no_settings
    ∷ look_gives (names ++ bound_and_rows "1" "5") 16 no_settings
    ∷ look_gives (names ++ bound_and_rows "1" "-1") 16 no_settings
    ∷ look_gives (names ++ bound_and_rows "1" "4294967297") 16 no_settings
    ∷ look_gives (names ++ bound_and_rows "1" "4") 0 (bounded 1 4)
    ∷ look_gives (names ++ "0 0 0 2\n0 0 1 1\n0 0 2 17\n0 0 3 1\n") 2 no_settings
    ∷ look_gives (names ++ "0 0 0 2\n0 0 1 1\n0 0 2 17\n0 0 3 1\n" ++ key) 2 no_settings
    -- so is a residue; of messages and challenges there is none past the narrow limit
    ∷ read_refused prove_reads (input "1 0 0 2305843009213693951\n1 0 1 5\n1 1 0 7\n1 1 1 2\n" message challenge) lent 8
    ∷ read_refused prove_reads (input "1 0 0 2305843009213693952\n1 0 1 5\n1 1 0 7\n1 1 1 2\n" message challenge) lent 2
    ∷ read_refused prove_reads (input "1 0 0 4294967299\n1 0 1 5\n1 1 0 7\n1 1 1 2\n" message challenge) lent 8
    ∷ read_refused prove_reads (input key "2 0 0 2147483647\n2 0 1 -1\n2 1 0 1\n2 1 1 0\n" challenge) lent 9
    ∷ read_refused prove_reads (input key "2 0 0 2147483648\n2 0 1 -1\n2 1 0 1\n2 1 1 0\n" challenge) lent 2
    ∷ read_refused prove_reads (input key message "5 0 0 2147483647\n") lent 10
    ∷ read_refused prove_reads (input key message "5 0 0 2147483648\n") lent 2
    -- a final coefficient is tested against nothing: past n·B it is rejected, and past the limit it is no number
    ∷ verifies (with_final "6 0 0 -2147483647\n6 0 1 0\n") "rejected\n"
    ∷ verifies (with_final "6 0 0 -2147483648\n6 0 1 0\n") "refused 2\n"
    -- the reader as a call: what it gives, and a lent table that has not its length or is lent for an absent part
    ∷ read_gives prove_reads (input key message challenge) lent example prove_tables
    ∷ read_refused prove_reads (input key message "5 0 0 4\n") lent 10
    ∷ read_refused prove_reads (input key message "5 0 0 1") lent 2
    ∷ read_refused prove_reads (input key message challenge) (tables (9 ∷ 9 ∷ 9 ∷ []) prove_tables.message [] [] (9 ∷ []) [] []) 7
    ∷ read_refused prove_reads (input key message challenge) (tables prove_tables.key prove_tables.message [] [] [] [] []) 7
    ∷ read_refused prove_reads (input key message challenge) (tables prove_tables.key prove_tables.message [] [] (9 ∷ []) (pos 9 ∷ []) []) 7
    ∷ read_refused prove_reads (input key message challenge) (tables prove_tables.key prove_tables.message [] [] (9 ∷ []) [] (9 ∷ [])) 7
    ∷ read_refused prove_reads (input key message "5 0 0 4\n") nothing 7
    ∷ read_refused prove_reads (with_settings "0 0 0 2\n0 0 1 1\n0 0 2 17\n0 0 3 0\n0 0 4 1\n") nothing 6
    ∷ read_refused prove_reads (with_settings (bound_and_rows "1" "0")) nothing 16
    ∷ read_refused prove_reads (with_settings (bound_and_rows "1" "2")) lent 7
    ∷ read_gives prove_prints listing lent_listed example (listed final_element)
    ∷ read_refused prove_prints listing (tables [] [] (9 ∷ 9 ∷ []) (replicate 6 9) (9 ∷ []) (pos 9 ∷ pos 9 ∷ []) (3 ∷ [])) 7
    ∷ read_gives final_only (names ++ no_depth ++ "6 0 0 2147483647\n6 0 1 -2147483647\n") (only_final (pos 9 ∷ pos 9 ∷ [])) shallow (only_final extremes)
    ∷ read_gives no_parts (names ++ settings) nothing example nothing
    -- with L = 2: items go first, and a challenge is an item of its own
    ∷ read_gives challenge_only (names ++ more_depth ++ "5 0 0 1\n5 1 0 3\n") (only_challenges (9 ∷ 9 ∷ [])) deep (only_challenges (1 ∷ 3 ∷ []))
    ∷ read_refused challenge_only (names ++ more_depth ++ "5 0 0 1\n5 0 1 3\n") (only_challenges (9 ∷ 9 ∷ [])) 7
    -- the writer: what stands behind its text stays, and on a refusal all of it
    ∷ write_gives example prove_prints (listed final_element) 173 169 listing
    ∷ write_gives example no_parts nothing 68 63 (names ++ settings)
    ∷ write_gives example no_parts nothing 63 63 (names ++ settings)
    ∷ write_refused example no_parts nothing 62 7
    ∷ write_refused example prove_prints (listed final_element) 0 7
    -- the writer's refusals; a bad table comes before a short output slice
    ∷ write_refused (record { degree = 3; depth = 9; modulus = 16; bound = 0; rows = 0 }) prove_prints (listed final_element) 4 3
    ∷ write_refused (record { degree = 2; depth = 9; modulus = 16; bound = 0; rows = 0 }) prove_prints (listed final_element) 4 4
    ∷ write_refused (record { degree = 2; depth = 1; modulus = 16; bound = 0; rows = 0 }) prove_prints (listed final_element) 4 5
    ∷ write_refused (record { degree = 2; depth = 1; modulus = 17; bound = 0; rows = 0 }) prove_prints (listed final_element) 4 6
    ∷ write_refused (bounded 1 0) prove_prints (listed []) 4 16
    ∷ write_refused (bounded 1 5) prove_prints (listed final_element) 4 16
    ∷ write_refused (bounded 1 2) prove_prints (listed final_element) 999 7
    ∷ write_refused example prove_prints (listed []) 4 7
    ∷ write_refused example prove_prints (tables (3 ∷ []) [] residues₂ residues₆ (1 ∷ []) final_element claims₂) 999 7
    ∷ write_refused example prove_prints (tables [] [] residues₂ residues₆ (1 ∷ []) final_element []) 999 7
    ∷ write_refused example prove_prints (tables [] [] (17 ∷ 4 ∷ []) residues₆ (1 ∷ []) final_element claims₂) 4 8
    ∷ write_refused example prove_prints (tables [] [] residues₂ (4 ∷ 1 ∷ 6 ∷ 0 ∷ 12 ∷ 17 ∷ []) (4 ∷ []) final_element claims₂) 4 8
    ∷ write_refused example prove_prints (tables [] [] residues₂ residues₆ (4 ∷ []) final_element (9 ∷ 17 ∷ [])) 4 8
    ∷ write_refused example prove_reads (tables (3 ∷ 5 ∷ 7 ∷ 2 ∷ []) (pos 1 ∷ negsuc 1 ∷ pos 1 ∷ pos 0 ∷ []) [] [] (4 ∷ []) [] []) 4 9
    ∷ write_refused example prove_prints (listed (pos 1 ∷ negsuc 2_147_483_647 ∷ [])) 999 9
    ∷ write_refused example prove_prints (tables [] [] residues₂ residues₆ (4 ∷ []) final_element claims₂) 4 10
    -- the round trip: all parts there, none, L = 0, and the largest magnitudes
    ∷ back example prove_prints (listed final_element) lent_listed
    ∷ back example all_parts everything everything
    ∷ back example no_parts nothing nothing
    ∷ back (bounded 1 2) all_parts tablesʷ lentʷ
    ∷ back deep all_parts (tables (replicate 8 16) (replicate 8 (negsuc 0)) (0 ∷ 1 ∷ []) (replicate 12 10) (0 ∷ 3 ∷ []) extremes (1 ∷ 2 ∷ 3 ∷ 16 ∷ [])) lent_deep
    ∷ back shallow all_parts (tables (0 ∷ 16 ∷ []) (pos 1 ∷ negsuc 0 ∷ []) (8 ∷ 2 ∷ []) [] [] extremes []) shallow_lent
    ∷ back widest prove_reads (tables (2_305_843_009_213_693_950 ∷ 10 ∷ []) (negsuc 126 ∷ pos 127 ∷ []) [] [] [] [] []) (tables (9 ∷ 9 ∷ []) (pos 9 ∷ pos 9 ∷ []) [] [] [] [] [])
    ∷ forth prove_reads (input key message challenge) lent
    ∷ forth prove_prints listing lent_listed
    ∷ forth verify_reads (with_final "6 0 0 -2147483647\n6 0 1 2147483647\n") lent_verify
    ∷ forth no_parts (names ++ no_depth) nothing
    -- the number reader: a value with the next place, or a refusal
    ∷ number "17 5" 0 0 (pos 17) 2
    ∷ number "17 5" 1 0 (pos 7) 2
    ∷ number "17 5" 3 0 (pos 5) 4
    ∷ number "17 5" 2 2 (pos 0) 0
    ∷ number "17 5" 4 2 (pos 0) 0
    ∷ number "17 5" 9 2 (pos 0) 0
    ∷ number "0" 0 0 (pos 0) 1
    ∷ number "-3\n" 0 0 (negsuc 2) 2
    ∷ number "-0\n" 0 2 (pos 0) 0
    ∷ number "03\n" 0 2 (pos 0) 0
    ∷ number "-" 0 2 (pos 0) 0
    ∷ number "2305843009213693951" 0 0 (pos 2_305_843_009_213_693_951) 19
    ∷ number "-2305843009213693951" 0 0 (negsuc 2_305_843_009_213_693_950) 20
    ∷ number "2305843009213693952" 0 2 (pos 0) 0
    ∷ count "17 5" 0 0 (pos 17) 2
    ∷ count "-3\n" 0 2 (pos 0) 0
    ∷ count "03\n" 0 2 (pos 0) 0
    ∷ count "2147483647" 0 0 (pos 2_147_483_647) 10
    ∷ count "2147483648" 0 2 (pos 0) 0
    -- the line reader: a line with the next place, or a refusal
    ∷ line_gives "2 0 1 -1\n2 1 0 1\n" 0 2 0 1 (negsuc 0) 9
    ∷ line_gives "2 0 1 -1\n2 1 0 1\n" 9 2 1 0 (pos 1) 17
    ∷ line_gives "4 2 10 16\n" 0 4 2 10 (pos 16) 10
    ∷ line_refused "2 0 1 -1" 0
    ∷ line_refused "2 0 1 -1\n" 1
    ∷ line_refused "2 0 1\n" 0
    ∷ line_refused "2 0 -1 1\n" 0
    ∷ line_refused "2 0 1 -1\n" 9
    -- a value may be wide but in parts 2, 5 and 6, wanted or not; part, item and place may not
    ∷ line_gives "1 0 0 2305843009213693951\n" 0 1 0 0 (pos 2_305_843_009_213_693_951) 26
    ∷ line_gives "7 2147483647 0 -2147483648\n" 0 7 2_147_483_647 0 (negsuc 2_147_483_647) 27
    ∷ line_gives "6 0 0 2147483647\n" 0 6 0 0 (pos 2_147_483_647) 17
    ∷ line_refused "1 0 0 2305843009213693952\n" 0
    ∷ line_refused "2 9 9 2147483648\n" 0
    ∷ line_refused "5 9 9 -2147483648\n" 0
    ∷ line_refused "6 9 9 2147483648\n" 0
    ∷ line_refused "2147483648 0 0 1\n" 0
    ∷ line_refused "1 2147483648 0 1\n" 0
    ∷ line_refused "1 0 2147483648 1\n" 0
    -- the settings that a text begins with: the lines behind them are looked at where the settings are not allowed
    ∷ begun_gives (names ++ settings ++ "x") 0 example
    ∷ begun_gives (names ++ "0 0 0 3\n0 0 1 1\n0 0 2 17\n0 0 3 1\n0 0 4 1\n") 3 no_settings
    ∷ begun_gives (names ++ "0 0 0 3\n0 0 1 1\n0 0 2 17\n0 0 3 1\n0 0 4 1\nx") 2 no_settings
    ∷ begun_gives settings 2 no_settings
    ∷ []

known_texts : map given table ≡ map expected table
unfolding computed_text given expected
known_texts = refl

-- what `prove` prints, with the key's lines put in, is what `verify` reads
listing-keyed : with_key example (3 ∷ 5 ∷ 7 ∷ 2 ∷ []) (prove_output (bytes (input key message challenge))) ≡ bytes (with_final final)
unfolding computed_text key_lines head_length with_key
listing-keyed = refl

-- 1: 65,537 bytes of anything are too long, to read and to write; 65,536 are not
over : (n : ℕ) → text_limit < n → (look_refusal (replicate n 48) ≡ 1) × (output_refusal (replicate n 48) 0 ≡ 1)
over n h = let l : text_limit < length {A = ℕ} (replicate n 48) = rw length-replicate h in (too_long_to-read _ l, too_long_to-write _ 0 l)

under : (n : ℕ) → suc n ≤ text_limit → (look_refusal (replicate (suc n) 48) ≡ 2) × (output_refusal (replicate (suc n) 48) (suc n) ≡ 0)
unfolding look_refusal output_refusal first unless well_formed lines_of parsed begins_with_names begins names_line bytes spots_of settings_shape shape choose shape_size spots tabulate same_spots
under n h = (rw (length-replicate, le-leb (suc n) text_limit h), rw (length-replicate, le-leb (suc n) text_limit h, le-leb (suc n) (suc n) (omega arith)))

limit-over : (look_refusal (replicate 65_537 48) ≡ 1) × (output_refusal (replicate 65_537 48) 0 ≡ 1)
unfolding text_limit
limit-over = over 65_537 (omega arith)

limit-under : (look_refusal (replicate 65_536 48) ≡ 2) × (output_refusal (replicate 65_536 48) 65_536 ≡ 0)
unfolding text_limit
limit-under = under 65_535 (omega arith)
