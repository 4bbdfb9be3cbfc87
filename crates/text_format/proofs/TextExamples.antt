-- The listing of PROTOCOL 12.1 as text: its pieces, of which other texts are made, and the tables that stand in it.
use mathlib.Core.Bool.{true, false}
use mathlib.Core.List.{List, [], ◌∷◌}
use Prim.Native.Nat.{ℕ}
use Prim.Native.String.{String, ◌++◌}
use lib.ListN.{replicate}
use lib.IntN.{ℤ, pos, negsuc}
use Rattle.protocol.specs.declared.Settings.{Settings}
use Rattle.protocol.specs.declared.Parts.{Parts}
use Rattle.text_format.specs.Text.{Tables}

-- ---- The pieces

abbrev pub names : String
names = "part item place value\n"

abbrev pub settings : String
settings = "0 0 0 2\n0 0 1 1\n0 0 2 17\n0 0 3 1\n0 0 4 1\n"

abbrev pub key : String
key = "1 0 0 3\n1 0 1 5\n1 1 0 7\n1 1 1 2\n"

abbrev pub message : String
message = "2 0 0 1\n2 0 1 -1\n2 1 0 1\n2 1 1 0\n"

abbrev pub commitment : String
commitment = "3 0 0 15\n3 0 1 4\n"

abbrev pub rounds : String
rounds = "4 0 0 4\n4 0 1 1\n4 1 0 6\n4 1 1 0\n4 2 0 12\n4 2 1 1\n"

abbrev pub challenge : String
challenge = "5 0 0 1\n"

abbrev pub final : String
final = "6 0 0 1\n6 0 1 0\n"

abbrev pub claim : String
claim = "7 0 0 9\n7 0 1 6\n"

-- what `prove` reads, the key's lines, the message's lines and the challenge's line being given
abbrev pub input : String → String → String → String
input k m e = names ++ settings ++ k ++ m ++ e

-- what `prove` reads, the settings' lines being given
abbrev pub with_settings : String → String
with_settings s = names ++ s ++ key ++ message ++ challenge

-- what `verify` reads, the final element's lines being given
abbrev pub with_final : String → String
with_final f = names ++ settings ++ key ++ commitment ++ rounds ++ challenge ++ f ++ claim

-- the same with the claim's lines being given
abbrev pub with_claim : String → String
with_claim v = names ++ settings ++ key ++ commitment ++ rounds ++ challenge ++ final ++ v

-- settings 2, 0, 17, 1, 1, with no rounds
abbrev pub no_depth : String
no_depth = "0 0 0 2\n0 0 1 0\n0 0 2 17\n0 0 3 1\n0 0 4 1\n"

-- the same with the largest modulus
abbrev pub wide_modulus : String
wide_modulus = "0 0 0 2\n0 0 1 0\n0 0 2 2305843009213693951\n0 0 3 1\n0 0 4 1\n"

-- settings 2, 2, 17, 1, 1
abbrev pub more_depth : String
more_depth = "0 0 0 2\n0 0 1 2\n0 0 2 17\n0 0 3 1\n0 0 4 1\n"

-- the settings of the example, the value of the bound's line and of the rows' line being given
abbrev pub bound_and_rows : String → String → String
bound_and_rows b r = "0 0 0 2\n0 0 1 1\n0 0 2 17\n0 0 3 " ++ b ++ "\n0 0 4 " ++ r ++ "\n"

-- what `prove` prints in PROTOCOL 12.1
abbrev pub listing : String
listing =
    "part item place value\n"
    ++ "0 0 0 2\n"
    ++ "0 0 1 1\n"
    ++ "0 0 2 17\n"
    ++ "0 0 3 1\n"
    ++ "0 0 4 1\n"
    ++ "3 0 0 15\n"
    ++ "3 0 1 4\n"
    ++ "4 0 0 4\n"
    ++ "4 0 1 1\n"
    ++ "4 1 0 6\n"
    ++ "4 1 1 0\n"
    ++ "4 2 0 12\n"
    ++ "4 2 1 1\n"
    ++ "5 0 0 1\n"
    ++ "6 0 0 1\n"
    ++ "6 0 1 0\n"
    ++ "7 0 0 9\n"
    ++ "7 0 1 6\n"

-- ---- Tables

-- the example's settings, bound and rows being given
abbrev pub bounded : ℕ → ℕ → Settings
bounded b r = record { degree = 2; depth = 1; modulus = 17; bound = b; rows = r }

abbrev pub example : Settings
example = bounded 1 1

abbrev pub tables : List ℕ → List ℤ → List ℕ → List ℕ → List ℕ → List ℤ → List ℕ → Tables
tables k m c r e f v = record { key = k; message = m; commitment = c; rounds = r; challenges = e; last = f; claims = v }

-- part 0 alone
abbrev pub no_parts : Parts
no_parts = record { key = false; message = false; commitment = false; rounds = false; challenges = false; last = false; claims = false }

abbrev pub challenge_only : Parts
challenge_only = record { key = false; message = false; commitment = false; rounds = false; challenges = true; last = false; claims = false }

abbrev pub final_only : Parts
final_only = record { key = false; message = false; commitment = false; rounds = false; challenges = false; last = true; claims = false }

abbrev pub all_parts : Parts
all_parts = record { key = true; message = true; commitment = true; rounds = true; challenges = true; last = true; claims = true }

abbrev pub residues₂ : List ℕ
residues₂ = 15 ∷ 4 ∷ []

abbrev pub residues₆ : List ℕ
residues₆ = 4 ∷ 1 ∷ 6 ∷ 0 ∷ 12 ∷ 1 ∷ []

abbrev pub claims₂ : List ℕ
claims₂ = 9 ∷ 6 ∷ []

-- the tables of the listing, the final element being given
abbrev pub listed : List ℤ → Tables
listed f = tables [] [] residues₂ residues₆ (1 ∷ []) f claims₂

abbrev pub final_element : List ℤ
final_element = pos 1 ∷ pos 0 ∷ []

-- tables that are lent for what `prove` reads
abbrev pub lent : Tables
lent = tables (9 ∷ 9 ∷ 9 ∷ 9 ∷ []) (pos 9 ∷ pos 9 ∷ pos 9 ∷ pos 9 ∷ []) [] [] (9 ∷ []) [] []

abbrev pub prove_tables : Tables
prove_tables = tables (3 ∷ 5 ∷ 7 ∷ 2 ∷ []) (pos 1 ∷ negsuc 0 ∷ pos 1 ∷ pos 0 ∷ []) [] [] (1 ∷ []) [] []

-- tables that are lent for what `prove` prints
abbrev pub lent_listed : Tables
lent_listed = tables [] [] (9 ∷ 9 ∷ []) (replicate 6 9) (9 ∷ []) (pos 9 ∷ pos 9 ∷ []) (3 ∷ 3 ∷ [])

abbrev pub nothing : Tables
nothing = tables [] [] [] [] [] [] []

abbrev pub everything : Tables
everything = tables prove_tables.key prove_tables.message residues₂ residues₆ (1 ∷ []) final_element claims₂

abbrev pub deep : Settings
deep = record { degree = 2; depth = 2; modulus = 17; bound = 1; rows = 1 }

-- settings and tables with no rounds
abbrev pub shallow : Settings
shallow = record { degree = 2; depth = 0; modulus = 17; bound = 1; rows = 1 }

abbrev pub shallow_lent : Tables
shallow_lent = tables (9 ∷ 9 ∷ []) (pos 9 ∷ pos 9 ∷ []) (9 ∷ 9 ∷ []) [] [] (pos 9 ∷ pos 9 ∷ []) []

-- tables that are lent for what `verify` reads, and for all parts with L = 2
abbrev pub lent_verify : Tables
lent_verify = tables (replicate 4 9) [] (replicate 2 9) (replicate 6 9) (9 ∷ []) (replicate 2 (pos 9)) (replicate 2 3)

abbrev pub lent_deep : Tables
lent_deep = tables (replicate 8 9) (replicate 8 (pos 9)) (replicate 2 9) (replicate 12 9) (replicate 2 9) (replicate 2 (pos 9)) (replicate 4 3)

abbrev pub only_challenges : List ℕ → Tables
only_challenges e = tables [] [] [] [] e [] []

abbrev pub only_final : List ℤ → Tables
only_final f = tables [] [] [] [] [] f []

-- the largest modulus and bound
abbrev pub widest : Settings
widest = record { degree = 2; depth = 0; modulus = 2_305_843_009_213_693_951; bound = 127; rows = 1 }

-- the largest magnitudes of a final element's value
abbrev pub extremes : List ℤ
extremes = pos 2_147_483_647 ∷ negsuc 2_147_483_646 ∷ []

-- ---- Two rows (PROTOCOL 12.7): behind the example's key a row of the weights 5 and 7

abbrev pub weights : String
weights = "1 2 0 5\n1 2 1 0\n1 3 0 7\n1 3 1 0\n"

-- the lines of the commitment, those of the second row being given
abbrev pub commitmentʷ : String → String
commitmentʷ second = commitment ++ second

abbrev pub secondʷ : String
secondʷ = "3 1 0 12\n3 1 1 12\n"

abbrev pub roundsʷ : String
roundsʷ = "4 0 0 4\n4 0 1 1\n4 1 0 11\n4 1 1 6\n4 2 0 6\n4 2 1 0\n4 3 0 6\n4 3 1 5\n4 4 0 12\n4 4 1 1\n4 5 0 12\n4 5 1 0\n"

-- the lines of the claims, the first value of the second row being given
abbrev pub claimsʷ : String → String
claimsʷ v = claim ++ "7 1 0 " ++ v ++ "\n7 1 1 12\n"

abbrev pub listingʷ : String
listingʷ = names ++ bound_and_rows "1" "2" ++ commitmentʷ secondʷ ++ roundsʷ ++ challenge ++ final ++ claimsʷ "11"

-- what `verify` reads, the commitment's lines of the second row and a value of its claim being given
abbrev pub with_second : String → String → String
with_second second v = names ++ bound_and_rows "1" "2" ++ key ++ weights ++ commitmentʷ second ++ roundsʷ ++ challenge ++ final ++ claimsʷ v

abbrev pub tablesʷ : Tables
tablesʷ = tables
    (3 ∷ 5 ∷ 7 ∷ 2 ∷ 5 ∷ 0 ∷ 7 ∷ 0 ∷ []) prove_tables.message (15 ∷ 4 ∷ 12 ∷ 12 ∷ [])
    (4 ∷ 1 ∷ 11 ∷ 6 ∷ 6 ∷ 0 ∷ 6 ∷ 5 ∷ 12 ∷ 1 ∷ 12 ∷ 0 ∷ []) (1 ∷ []) final_element (9 ∷ 6 ∷ 11 ∷ 12 ∷ [])

-- tables that are lent for all parts
abbrev pub lentʷ : Tables
lentʷ = tables (replicate 8 9) (replicate 4 (pos 9)) (replicate 4 9) (replicate 12 9) (9 ∷ []) (replicate 2 (pos 9)) (replicate 4 3)
