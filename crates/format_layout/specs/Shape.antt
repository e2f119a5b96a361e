-- The words in which the layout table is written: codes and labels as texts, a field by its kind and columns, a second set.
use Rattle.std.specs.Prelude.{ℕ, zero, suc, ◌+◌, Bool, true, false, List, [], ◌∷◌, map}
use Prim.Native.Char.{code}
use Prim.Native.String.{String, [] as ε, ◌∷◌ as ◌▸◌}
use Rattle.format_layout.specs.declared.Kind.{Kind}
use Rattle.format_layout.specs.declared.Kind.TheVariants.{Text, Comment, Whole, Decimal, Date, Latitude, Longitude}
use Rattle.format_layout.specs.declared.Range.{Range}
use Rattle.format_layout.specs.declared.Range.TheVariants.{Any, Between}
use Rattle.format_layout.specs.declared.Field.{Field}

-- the bytes of a text
abbrev pub bytes : String → List ℕ
bytes ε = []
bytes (c ▸ s) = code c ∷ bytes s

-- one line of the table: a code, a label that begins in column 6 (no bytes: none), and the fields from left to right
pub record Layout : Type 0 where
  pub code : List ℕ
  pub label : List ℕ
  pub fields : List Field

abbrev pub layout : String → String → List Field → Layout
layout c l fs = record { code = bytes c; label = bytes l; fields = fs }

-- a field of one set: kind, first and last column, whether it is needed, allowed values
abbrev pub field : Kind → ℕ → ℕ → Bool → Range → Field
field k f l n r = record { kind = k; first = f; last = l; needed = n; second = false; range = r }

-- the kinds that the paper letters A, I, N, D, Y and X; a needed field has its mark !
abbrev pub text : ℕ → ℕ → Field
text f l = field Text f l false Any

abbrev pub text! : ℕ → ℕ → Field
text! f l = field Text f l true Any

-- a text that may begin with blanks
abbrev pub comment : ℕ → ℕ → Field
comment f l = field Comment f l false Any

abbrev pub whole : ℕ → ℕ → Range → Field
whole f l r = field Whole f l false r

abbrev pub whole! : ℕ → ℕ → Range → Field
whole! f l r = field Whole f l true r

abbrev pub decimal : ℕ → ℕ → Field
decimal f l = field Decimal f l false Any

abbrev pub date : ℕ → ℕ → Field
date f l = field Date f l false Any

abbrev pub latitude : ℕ → ℕ → Field
latitude f l = field Latitude f l false Any

abbrev pub longitude : ℕ → ℕ → Field
longitude f l = field Longitude f l false Any

-- {0,1}
abbrev pub flag : Range
flag = Between 0 1

-- the column that says how the card's coordinates are spelled
abbrev pub form : ℕ → Field
form c = whole! c c flag

-- the same field as a part of a second set
abbrev pub again : Field → Field
again f = record { kind = f.kind; first = f.first; last = f.last; needed = f.needed; second = true; range = f.range }

-- the fields of a second set, which end a layout
abbrev pub second : List Field → List Field
second fs = map again fs

-- so many pairs of a direction and its correction, seven columns each
abbrev pub pairs : ℕ → ℕ → List Field
pairs zero c = []
pairs (suc n) c = whole c (c + 2) (Between 0 360) ∷ decimal (c + 3) (c + 6) ∷ pairs n (c + 7)
