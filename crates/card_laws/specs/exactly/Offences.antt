-- When the verdict on a whole card is an offence, and when it is fine.
use Rattle.std.specs.Prelude.{ℕ, ◌+◌, ◌≤◌, ◌<◌, ◌≡◌, List, true, false, length, take}
use Rattle.value_text.specs.text.Texts.{printable}
use Rattle.format_code.specs.declared.Code.TheVariants.{Read, Passed, Unknown}
use Rattle.format_code.specs.Codes.{code_of}
use Rattle.value_text.specs.printable.Bytes.{bad_at}
use Rattle.format_layout.specs.declared.Form.{Form}
use Rattle.card_check.specs.Judging.{offence_at}

-- 80 columns, all printable
pub record Sound (s : List ℕ) : Type 0 where
  pub whole : length s ≡ 80
  pub printed : printable s ≡ true

-- column d is the first of the card whose byte is outside 32 to 126
pub record BadByte (s : List ℕ) (d : ℕ) : Type 0 where
  pub whole : length s ≡ 80
  pub place : ℕ
  pub column : d ≡ place + 1
  pub on_card : place < 80
  pub bad : bad_at s place ≡ true
  pub none_before : (i : ℕ) → i < place → bad_at s i ≡ false

-- column d, from 6 to 80, has offence n, and no column from 6 on has one before it
pub record Leftmost (offence : ℕ → ℕ) (n d : ℕ) : Type 0 where
  pub from : 6 ≤ d
  pub on_card : d ≤ 80
  pub number : offence d ≡ n
  pub some : n ≡ 0 → ⊥
  pub none_before : (c : ℕ) → 6 ≤ c → c < d → offence c ≡ 0

-- a card offends with number n at column d
pub data Offends (s : List ℕ) (form : Form) (n d : ℕ) : Type 0 where
  empty : length s ≡ 0 → n ≡ 1 → d ≡ 0 → Offends s form n d
  size : (length s ≡ 0 → ⊥) → (length s ≡ 80 → ⊥) → n ≡ 2 → d ≡ 0 → Offends s form n d
  byte : BadByte s d → n ≡ 4 → Offends s form n d
  unknown : Sound s → code_of (take 5 s) ≡ Unknown → n ≡ 5 → d ≡ 1 → Offends s form n d
  column : Sound s → (k : ℕ) → code_of (take 5 s) ≡ Read k → Leftmost (offence_at k form s) n d → Offends s form n d

-- a card is fine: a passed one for its bytes alone, a read one if no column from 6 on has an offence
pub data IsFine (s : List ℕ) (form : Form) : Type 0 where
  passed : Sound s → code_of (take 5 s) ≡ Passed → IsFine s form
  read : Sound s → (k : ℕ) → code_of (take 5 s) ≡ Read k → ((c : ℕ) → 6 ≤ c → c ≤ 80 → offence_at k form s c ≡ 0) → IsFine s form
