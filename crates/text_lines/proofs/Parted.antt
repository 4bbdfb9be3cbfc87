-- A line, column by column: after each of them, what is left of it.
--
--   Column, small, narrowed     a column that was read, and its number as a narrow one
--   left₁ .. left₄              the line from a place on, after its first column and so on
use Rattle.std.proofs.Common.{◌≡◌, ℕ, ◌≤◌, List, drop, ℤ, pos, nat_abs, of_z, to_z, w64, ◌∙◌}
use Rattle.text_format.specs.Text.{narrow_limit, limit_of, read_number, read_index, read_line}
use Rattle.text_lines.proofs.Counts.{Found}
use Rattle.text_lines.proofs.Rows.{bind-some, column_small, line-columns, line₁, line₂, line₃, line₄}
use Rattle.text_lines.proofs.Words.{narrow-value}

-- a column that was read: its number, as the code has it
pub record Column (text : List ℕ) (at : ℕ) (v : ℤ) (next : ℕ) : Type 0 where
  pub number : ℕ
  pub value_is : v ≡ pos number
  pub found : Found read_index text at number next

module _ (text : List ℕ) (at : ℕ) (v : ℤ) (next : ℕ) (c : Column text at v next) where
  pub small : c.number ≤ narrow_limit
  small = column_small (drop at text) c.number (drop next text) c.found.is

  pub narrowed : nat_abs (to_z w64 (of_z w64 v)) ≡ c.number
  narrowed = narrow-value v c.number c.value_is small

module _ (text : List ℕ) (at p on₁ : ℕ) (f₁ : Found read_index text at p on₁) where
  pub left₁ : read_line (drop at text) ≡ line₁ (p, drop on₁ text)
  left₁ = line-columns (drop at text) ∙ bind-some _ _ line₁ f₁.is

  module _ (i on₂ : ℕ) (f₂ : Found read_index text on₁ i on₂) where
    pub left₂ : read_line (drop at text) ≡ line₂ p (i, drop on₂ text)
    unfolding line₁
    left₂ = left₁ ∙ bind-some _ _ (line₂ p) f₂.is

    module _ (k on₃ : ℕ) (f₃ : Found read_index text on₂ k on₃) where
      pub left₃ : read_line (drop at text) ≡ line₃ p i (k, drop on₃ text)
      unfolding line₂
      left₃ = left₂ ∙ bind-some _ _ (line₃ p i) f₃.is

      module _ (v : ℤ) (on₄ : ℕ) (f₄ : Found (read_number (limit_of p)) text on₃ v on₄) where
        pub left₄ : read_line (drop at text) ≡ line₄ p i k (v, drop on₄ text)
        unfolding line₃
        left₄ = left₃ ∙ bind-some _ _ (line₄ p i k) f₄.is
