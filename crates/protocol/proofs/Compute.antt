-- Whoever unfolds `computed` unfolds every definition on tables, so that closed examples compute.
use Rattle.protocol.specs.Basic.{sum, every, least, tabulate, flat, all, among, within, choose, first, unless, granted}
use Rattle.protocol.specs.Element.{modulo, flips, around, rotate, product, one, power, plus, times, signed, residue, signed_at, residue_at, coefficients, reduced, width, zeros}
use Rattle.protocol.specs.Element.{signed_zeros, padded_signed, value_row}
use Rattle.protocol.specs.Settings.{degree_allowed, depth_allowed, modulus_allowed, bound_allowed, rows_allowed, settings_refusal, size, cells, half, has_length, all_below, residue_element}
use Rattle.protocol.specs.Settings.{residue_rows, all_within, exponent, exponents}
use Rattle.protocol.specs.Opening.{inner, second, cross, fold_signed, fold_residues, commitment, left, half_left, round_element, fold_message, fold_key, message_after, key_after}
use Rattle.protocol.specs.Opening.{final_element, round_table}
use Rattle.protocol.specs.Transcript.{doubled, round_holds, next_claim, final_bounded, ending, end_holds, end_met, element, claim_after, holds_at, closes, accepted, transcript_of}
use Rattle.protocol.specs.Rows.{end_cause, key_row, stacked, row_items, interleaved, at_rows, together, row_of, commitments, round_tables, fold_keys, keys_after, transcripts_of}
use Rattle.protocol.specs.Rows.{all_accepted, held, cause}
use Rattle.protocol.specs.Session.{slots, verdict, end_number, opened, blank, start_refusal, start, refused_move, shut, part, session_round_refusal, advanced, session_round_holds, round}
use Rattle.protocol.specs.Session.{session_end_refusal, session_end_holds, end}
use Rattle.protocol.specs.Tree.{child, parent, place, above, challenge, challenge_to, apart, gap, steps, s, difference, mu, share, joined, combined, growth_factor, growth_limit}
use Rattle.protocol.specs.Tree.{nodes, leaves, on_path, path_challenges, path_rounds, leaf, path, row_path, fold_to, vector, root_vector, growth, growth_allowed}
use Rattle.protocol.specs.CommonDivisor.{euclid, greatest_common_divisor}
use Rattle.protocol.specs.Judge.{slack_allowed, slack, scaled_commitment, combination, opens, judged}
use Rattle.protocol.specs.Calls.{commit_refusal, commit_answer, left_small, moving_small, round_refusal, polynomial, no_polynomial, round_answer, fold_refusal, fold_key_exit}
use Rattle.protocol.specs.Calls.{fold_message_exit, ending_small, end_refusal, end_answer, opening_refusal, opening_answer, opening_key_exit, opening_message_exit, opening_rounds_exit}
use Rattle.protocol.specs.Calls.{check_refusal, check_answer, check_number, judge_refusal, judge_answer, every_path, tree_refusal, extract_refusal, extract_exit}
use Rattle.protocol.specs.HonestTree.{way_to, answer_at, honest_rounds, honest_table, honest_finals}

unfoldable pub computed : Unit {0}
unfolding
    sum every least tabulate flat all among within choose first unless granted
    modulo flips around rotate product one power plus times signed residue signed_at residue_at coefficients reduced width zeros signed_zeros padded_signed value_row
    degree_allowed depth_allowed modulus_allowed bound_allowed rows_allowed settings_refusal size cells half has_length all_below residue_element residue_rows all_within exponent exponents
    inner second cross fold_signed fold_residues commitment left half_left round_element fold_message fold_key message_after key_after final_element round_table
    doubled round_holds next_claim final_bounded ending end_holds end_met element claim_after holds_at closes accepted transcript_of
    end_cause key_row stacked row_items interleaved at_rows together row_of commitments round_tables fold_keys keys_after transcripts_of all_accepted held cause
    slots verdict end_number opened blank start_refusal start refused_move shut part session_round_refusal advanced session_round_holds round session_end_refusal session_end_holds end
    child parent place above challenge challenge_to apart gap steps s difference mu share joined combined growth_factor growth_limit nodes leaves on_path path_challenges path_rounds leaf path
    row_path fold_to vector root_vector growth growth_allowed
    euclid greatest_common_divisor slack_allowed slack scaled_commitment combination opens judged
    commit_refusal commit_answer left_small moving_small round_refusal polynomial no_polynomial round_answer fold_refusal fold_key_exit fold_message_exit ending_small end_refusal end_answer opening_refusal
    opening_answer opening_key_exit opening_message_exit opening_rounds_exit check_refusal check_answer check_number judge_refusal judge_answer every_path tree_refusal extract_refusal extract_exit
    way_to answer_at honest_rounds honest_table honest_finals
computed = tt
