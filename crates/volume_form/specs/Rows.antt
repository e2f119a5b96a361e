-- The table of forms: a volume's forms have the same fields, and differ in codes, widths and limits.
use Rattle.std.specs.Prelude.{ℕ, List}
use Rattle.format_layout.specs.Shape.{bytes}
use Rattle.volume_form.specs.declared.Form.{Form}
use Rattle.volume_form.specs.declared.Form.TheVariants.{Old, Wide}

-- the codes of a directory card and of the trailer, and of a directory card of the other form; the columns of a number, the most cards
-- of a volume and of a header in it
pub record Row : Type 0 where
  pub entry : List ℕ
  pub trailer : List ℕ
  pub other : List ℕ
  pub width : ℕ
  pub most : ℕ
  pub largest : ℕ

unfoldable pub row_of : Form → Row
row_of Old = record { entry = bytes "X0001"; trailer = bytes "X0009"; other = bytes "X0011"; width = 3; most = 999; largest = 800 }
row_of Wide = record { entry = bytes "X0011"; trailer = bytes "X0019"; other = bytes "X0001"; width = 5; most = 20000; largest = 4096 }
