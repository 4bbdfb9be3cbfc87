-- PROTOCOL 3: what a verifier checks in one row, and when the transcript of one row is accepted. Rows has all rows.
--
--   Transcript               commitment, round elements, challenges, final element
--   doubled S c0 c2          2·(c0 + c2) modulo q
--   round_holds S claim ..   does a round hold
--   next_claim S e c0 c1 c2  what the claim becomes, r = X^e
--   final_bounded S f        has f no coefficient beyond ±n·B
--   folded_key S key E       G', the first element of the key folded by the challenges E
--   ending S f G             half^L·f·G modulo q
--   end_holds S claim f G    does the claim equal it
--   end_met S claim f G      does it, and has f no coefficient beyond ±n·B
--   element S T t j          c_j of round t + 1
--   claim_after S T t        the claim after t rounds
--   holds_at, closes         does round t + 1 hold; is the last equation met
--   accepted S key T         is a transcript accepted, as a test; `Accepted` is the same as a statement
--   transcript_of            a message's transcript
use Rattle.std.specs.Prelude.{◌≡◌, Bool, ◌&&◌, List, ℕ, zero, suc, ◌*◌, ◌^◌, ◌<◌, ◌≤◌, eqb, get_or, ℤ, pos, ◌+ℤ◌, ◌*ℤ◌, nat_abs}
use Rattle.protocol.specs.declared.Settings.{Settings}
use Rattle.protocol.specs.Basic.{every, within}
use Rattle.protocol.specs.Element.{Element, modulo, rotate, product, reduced, signed, residue_at}
use Rattle.protocol.specs.Settings.{size, half}
use Rattle.protocol.specs.Layout.{item_of}
use Rattle.protocol.specs.Opening.{key_after, commitment, round_table, message_after, final_element}

-- PROTOCOL 3.4
pub record Transcript : Type 0 where
  pub commitment : List ℕ
  pub rounds : List ℕ
  pub challenges : List ℕ
  pub last : List ℤ

module _ (S : Settings) where
  open S use {degree as d, depth as L, modulus as q, bound as B}

  unfoldable pub doubled : Element → Element → ℕ → ℕ
  doubled c0 c2 k = modulo q (pos 2 *ℤ (c0 k +ℤ c2 k))

  -- PROTOCOL 3.1
  unfoldable pub round_holds : List ℕ → Element → Element → Bool
  round_holds claim c0 c2 = every d (λ k. eqb (doubled c0 c2 k) (get_or claim k 0))

  -- PROTOCOL 3.2
  unfoldable pub next_claim : ℕ → Element → Element → Element → List ℕ
  next_claim e c0 c1 c2 = reduced q d (λ k. c0 k +ℤ rotate d e c1 k +ℤ rotate d e (rotate d e c2) k)

  -- PROTOCOL 3.3, the bound
  unfoldable pub final_bounded : Element → Bool
  final_bounded f = every d (λ k. within (size S * B) (f k))

  -- PROTOCOL 3.3: what the last equation compares the claim with, G being the first element of the folded key
  unfoldable pub ending : Element → Element → ℕ → ℕ
  ending f G k = modulo q (pos (half S ^ L) *ℤ product d f G k)

  -- PROTOCOL 3.3, the last equation
  unfoldable pub end_holds : List ℕ → Element → Element → Bool
  end_holds claim f G = every d (λ k. eqb (get_or claim k 0) (ending f G k))

  -- PROTOCOL 3.3, the bound and the last equation
  unfoldable pub end_met : List ℕ → Element → Element → Bool
  end_met claim f G = final_bounded f && end_holds claim f G

  -- PROTOCOL 3.3: the key folded by all challenges is one element
  abbrev pub folded_key : List ℕ → List ℕ → Element
  folded_key key E = residue_at d (key_after S E L key) 0

  unfoldable pub element : Transcript → ℕ → ℕ → Element
  element T t j = residue_at d T.rounds (item_of t j)

  -- PROTOCOL 3.4: the first claim is the transcript's own commitment
  unfoldable pub claim_after : Transcript → ℕ → List ℕ
  claim_after T zero = T.commitment
  claim_after T (suc t) = next_claim (get_or T.challenges t 0) (element T t 0) (element T t 1) (element T t 2)

  unfoldable pub holds_at : Transcript → ℕ → Bool
  holds_at T t = round_holds (claim_after T t) (element T t 0) (element T t 2)

  unfoldable pub closes : List ℕ → Transcript → Bool
  closes key T = end_holds (claim_after T L) (signed T.last) (folded_key key T.challenges)

  -- PROTOCOL 3.4: every round, the bound, and the last equation
  unfoldable pub accepted : List ℕ → Transcript → Bool
  accepted key T = every L (holds_at T) && (final_bounded (signed T.last) && closes key T)

pub record Accepted (S : Settings) (key : List ℕ) (T : Transcript) : Type 0 where
  pub every_round : (t : ℕ) → t < S.depth → (k : ℕ) → k < S.degree → doubled S (element S T t 0) (element S T t 2) k ≡ get_or (claim_after S T t) k 0
  pub in_bound : (k : ℕ) → k < S.degree → nat_abs (signed T.last k) ≤ size S * S.bound
  pub at-end : (k : ℕ) → k < S.degree → get_or (claim_after S T S.depth) k 0 ≡ ending S (signed T.last) (folded_key S key T.challenges) k

-- PROTOCOL 2.6
unfoldable pub transcript_of : Settings → List ℕ → List ℤ → List ℕ → Transcript
transcript_of S key message E = record {
  commitment = commitment S key message;
  rounds = round_table S E key message;
  challenges = E;
  last = final_element S (message_after S E S.depth message);
}
