-- Whoever unfolds `computed_text` unfolds every definition that the examples about text compute with.
use mathlib.Core.List.{flat_map, zip_with}
use mathlib.Core.Option.{bind}
use Rattle.protocol.specs.Basic.{sum, every, least, tabulate, flat, all, among, within, choose, first, unless, granted}
use Rattle.protocol.specs.Element.{modulo, flips, around, rotate, product, plus, times, signed, signed_at, residue_at, coefficients, reduced}
use Rattle.protocol.specs.Settings.{degree_allowed, depth_allowed, modulus_allowed, bound_allowed, rows_allowed, settings_refusal, size, cells, half, has_length, all_below}
use Rattle.protocol.specs.Settings.{all_within, exponent, exponents}
use Rattle.protocol.specs.Opening.{inner, second, cross, fold_signed, fold_residues, commitment, half_left, round_element, fold_message, fold_key}
use Rattle.protocol.specs.Opening.{message_after, key_after, final_element, round_table}
use Rattle.protocol.specs.Transcript.{doubled, round_holds, next_claim, final_bounded, ending, end_holds, element, claim_after, holds_at, closes}
use Rattle.protocol.specs.Transcript.{accepted}
use Rattle.protocol.specs.Rows.{key_row, row_items, interleaved, row_of, commitments, round_tables, transcripts_of, all_accepted}
use Rattle.protocol.specs.WrittenClaims.{claim_of, claim_table, claim_written, claims_written}
use Rattle.text_format.specs.Text.{text_limit, value_limit, narrow_limit, limit_of, bytes, names, digit_count, low_digits, decimal, numeral, line_text, lines_text, shape}
use Rattle.text_format.specs.Text.{settings_shape, shapes, shape_size, spot_at, spots, wanted, settings_values, contents, block, blocks, block_lines, text_of, block_fits}
use Rattle.text_format.specs.Text.{fits, keep, digit, digit_run, digit_first, proper_digits, read_count, plain, negative, read_number, byte, read_index}
use Rattle.text_format.specs.Text.{read_line, read_lines, begins, begins_with_names, parsed, lines_of, same_spot, same_spots, spots_of, values_of}
use Rattle.text_format.specs.Text.{well_formed, unsigned, column, unsigned_column, setting_in, settings_in, tables_in, no_settings, look_refusal, loaded}
use Rattle.text_format.specs.Text.{look_answer, entries_refusal, text_refusal, read_refusal, read_answer, read_exit, output_refusal, write_refusal}
use Rattle.text_format.specs.Text.{written, overwritten, write_answer, write_exit, reading, number_answer, read_number_at, read_count_at}
use Rattle.text_format.specs.Lines.{no_line, line_reading, line_answer, read_line_at, read_value, read_values, settings_of, read_settings, begun_with, begun_answer}
use Rattle.text_format.specs.Programs.{prove_reads, prove_prints, verify_reads, printed, proof_text, prove_text, prove_refusal, prove_answer, prove_exit}
use Rattle.text_format.specs.Programs.{transcript_in, tables_accepted, verify_refusal, verify_answer, checked, refused_line, verdict_line, prove_output}
use Rattle.text_format.specs.Programs.{verify_output}
use Rattle.text_format.specs.RoundTrip.{outcome}

unfoldable pub computed_text : Unit {0}
unfolding
    bind flat_map zip_with
    sum every least tabulate flat all among within choose first unless granted
    modulo flips around rotate product plus times signed signed_at residue_at coefficients reduced
    degree_allowed depth_allowed modulus_allowed bound_allowed rows_allowed settings_refusal size cells half has_length all_below all_within exponent exponents
    inner second cross fold_signed fold_residues commitment half_left round_element fold_message fold_key message_after key_after final_element round_table
    doubled round_holds next_claim final_bounded ending end_holds element claim_after holds_at closes accepted
    key_row row_items interleaved row_of commitments round_tables transcripts_of all_accepted claim_of claim_table claim_written claims_written
    text_limit value_limit narrow_limit limit_of bytes names digit_count low_digits decimal numeral line_text lines_text shape settings_shape shapes shape_size spot_at spots wanted
    settings_values contents block blocks block_lines text_of block_fits fits keep digit digit_run digit_first proper_digits read_count plain negative read_number byte read_index
    read_line read_lines begins begins_with_names parsed lines_of same_spot same_spots spots_of values_of well_formed unsigned column unsigned_column setting_in
    settings_in tables_in no_settings look_refusal loaded look_answer entries_refusal text_refusal read_refusal read_answer read_exit output_refusal
    write_refusal written overwritten write_answer write_exit reading number_answer read_number_at read_count_at
    no_line line_reading line_answer read_line_at read_value read_values settings_of read_settings begun_with begun_answer
    prove_reads prove_prints verify_reads printed proof_text prove_text prove_refusal prove_answer prove_exit transcript_in tables_accepted verify_refusal
    verify_answer checked refused_line verdict_line prove_output verify_output
    outcome
computed_text = tt
