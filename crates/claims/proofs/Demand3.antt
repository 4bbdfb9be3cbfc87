-- Demand 3, proved (PROTOCOL 11.2): all calls of an opening in their order, and all of a tree, in one claim.
--
-- What is claimed is the type `Demand3` of one_claim/specs/Demand3: for all allowed settings and every key,
--   · an opening of any message within its bound, by any challenges, is not refused, says accepted and gives a transcript that is accepted in every row, and so does every list of calls that makes it
--     move by move, refused calls of any kind standing anywhere between: no step of it is refused, and it ends with the same answers and tables;
--   · from every full tree whose paths are all accepted, whatever was answered in it, the extractor is not refused within the growth limit and leaves the root vector: within its
--     bound, opening 4^L times every row's commitment, and exactly 4^L·m where all leaves are folds of one m.
--
-- From here to the functions. The claim speaks of definitions such as `opening_answer`, `fold_key_exit`, `round` and `extract_exit`. Each public function promises an equation with its
-- definition, for every input and with no `requires`. `PerformedDemand3` (one_claim/specs/Performed) is the claim over values of which only these promises are known; Performed proves it from this one.
-- That there is something to claim, a run for every message and a full tree for every choice of challenges, is `NeverVacuous` (one_claim/specs), proved in HonestTree.
--
-- What rules out a weaker claim, in the order of the ways in which one could slip in:
--    1 refused calls of some kinds only          `Call` has every call that can be lent one of the tables or given the record: the table reader and writer, the whole opening, the extractor too
--    2 refused calls on both tables only         each argument is a `KeyTable`, `MessageTable` or `Record` of its own: ours, the copy, or any other
--    3 refused calls at some places only         `Run` has a `Gap` before every step and one after the last; before the start the record is any record r
--    4 honest arguments from the definitions     `step` is given what is held and what was heard, and nothing else but S and E
--    5 the verdicts alone equal                  `SameAsWhole` has commitment, round elements, final element, verdict, both tables, and that no step is refused
--    6 "refused" as "unchanged"                  `Gap` asks for a number that is not 0; that nothing changes is proved (Refused)
--    7 the root vector and not the call          `ExtractionClaim` is about `extract_refusal` and `extract_exit`, the call's number and its slice at exit
--    8 acceptance by code or node by node        `FullTree` asks for `Accepted` of every path, a record of equations over a transcript; the recursion is proved equal (TreeCheck)
--    9 an honest prover in the tree              `FullTree` says nothing of where rounds, challenges and leaves come from; `FoldsOf` asks for no bound on m, and for one m
--   10 leaves or m as machine numbers            they are lists over ℤ
--   11 L ≥ 1, or some degrees                    `Valid` has L from 0 to 8 and every listed degree; the proofs are over d = 2^D and never split on L
--   12 two theorems                              one type, one name, below
--   13 hypotheses carried by a `requires`        no public function has one
--   14 some rows, or a vector for each row       `AllAccepted`, `FullTree` and `opens` are over every row of the key, with one list of challenges, one of leaves and one w; `Valid` has 1 to 4 rows
use Rattle.one_claim.specs.Demand3.{Demand3}
use Rattle.claims.proofs.Opening.{opening-claim}
use Rattle.claims.proofs.Extractor.{extraction-claim}

pub demand3 : Demand3
demand3 S G ok key-ok = record {
  opening = opening-claim S G ok key-ok;
  extraction = λ C rounds E finals w tree room long. extraction-claim S ok G C rounds E finals w key-ok tree room long;
}
