-- The layout table: every code that is read, with its label and its fields, and every code that is passed.
-- In a code @ is a digit 1 to 9 and # any digit; both are used so in the two lists.
use Rattle.std.specs.Prelude.{List, [], ◌∷◌, ℕ}
use Rattle.format_layout.specs.declared.Range.TheVariants.{Any, AtLeast, Between, OneOf}
use Rattle.format_layout.specs.Shape.{
  Layout,
  bytes,
  layout,
  text,
  text!,
  comment,
  whole,
  whole!,
  decimal,
  date,
  latitude,
  longitude,
  flag,
  form,
  second,
  pairs,
}

-- the read codes, numbered from 0 in this order
abbrev pub read_table : List Layout
read_table =
    -- line name
    layout "H0000" "Line Name:" (text 29 44 ∷ whole 46 49 Any ∷ text 50 80 ∷ []) ∷
    -- project name
    layout "H0001" "Project Name:" (text 29 36 ∷ text 38 62 ∷ date 64 71 ∷ date 73 80 ∷ []) ∷
    -- project description
    layout "H0002" "Project Description:" (text 29 80 ∷ []) ∷
    -- media and format
    layout "H0003" "Media Specification:" (date 29 36 ∷ text 38 47 ∷ text 49 64 ∷ text 66 76 ∷ decimal 78 80 ∷ []) ∷
    -- client
    layout "H0004" "Client:" (text 29 80 ∷ []) ∷
    -- geophysical contractor
    layout "H0005" "Geophysical Contractor:" (text 29 80 ∷ []) ∷
    -- positioning contractor
    layout "H0006" "Positioning Contractor:" (text 29 80 ∷ []) ∷
    -- processing contractor
    layout "H0007" "Processing Contractor:" (text 29 80 ∷ []) ∷
    -- line parameters of a vessel, H00@8 on paper: its digit may be 0
    layout "H00#8" "Line Parameters Vessel:" (
    whole! 30 30 (Between 0 9) ∷ form 32 ∷ latitude 34 45 ∷ longitude 46 57 ∷ whole 59 64 Any ∷ whole 66 68 Any ∷
    decimal 70 75 ∷ whole 77 77 flag ∷ whole 79 80 (Between 0 99) ∷ []) ∷
    -- further waypoints, H00@9 on paper: its digit may be 0
    layout "H00#9" "" (
    whole! 7 7 (Between 0 9) ∷ whole! 9 11 (AtLeast 0) ∷ latitude 13 24 ∷ longitude 26 37 ∷
    second (whole! 39 41 (AtLeast 0) ∷ latitude 43 54 ∷ longitude 56 67 ∷ [])) ∷
    -- comment on the project
    layout "C0001" "" (comment 6 80 ∷ []) ∷
    -- comment on the line
    layout "C0002" "" (comment 6 80 ∷ []) ∷
    -- magnetic variation, in general
    layout "H0100" "" (date 7 14 ∷ whole 16 19 (AtLeast 0) ∷ form 21 ∷ text 23 80 ∷ []) ∷
    -- magnetic variation, a point of the grid
    layout "H0101" "" (whole! 7 10 (AtLeast 0) ∷ latitude 12 23 ∷ longitude 25 36 ∷ decimal 38 44 ∷ decimal 46 51 ∷ []) ∷
    -- datum and spheroid, H011# on paper: its digit is 1 to 9
    layout "H011@" "" (text 7 24 ∷ text 25 43 ∷ decimal 44 55 ∷ decimal 57 68 ∷ decimal 70 80 ∷ []) ∷
    -- shift from one datum to another
    layout "H0120" "" (
    whole! 7 7 (Between 1 9) ∷ whole! 9 9 (Between 1 9) ∷ whole 11 11 flag ∷ decimal 13 22 ∷ decimal 24 33 ∷
    decimal 35 44 ∷ decimal 46 53 ∷ decimal 55 62 ∷ decimal 64 71 ∷ decimal 73 80 ∷ []) ∷
    -- pitch, roll and heave sensor
    layout "H17@0" "" (
    whole! 7 7 (AtLeast 0) ∷ whole 9 9 flag ∷ whole 10 10 flag ∷ whole 11 11 flag ∷ whole 12 12 (OneOf 3 4 9) ∷
    whole 13 13 (OneOf 0 1 9) ∷ decimal 15 22 ∷ decimal 24 31 ∷ whole 33 33 (Between 0 4) ∷ whole 34 34 (Between 0 4) ∷
    decimal 36 42 ∷ decimal 44 50 ∷ decimal 52 58 ∷ text 60 80 ∷ []) ∷
    -- quality of such a sensor
    layout "H17@1" "" (whole! 7 7 (AtLeast 0) ∷ text 9 80 ∷ []) ∷
    -- streamer geometry
    layout "H21@0" "" (
    whole! 7 9 (AtLeast 0) ∷ decimal 11 17 ∷ decimal 19 25 ∷ decimal 27 32 ∷ decimal 35 41 ∷ decimal 43 49 ∷
    decimal 51 56 ∷ decimal 58 64 ∷ decimal 66 71 ∷ []) ∷
    -- streamer geometry, continued
    layout "H21@1" "" (
    whole! 7 9 (AtLeast 0) ∷ decimal 11 15 ∷ decimal 17 21 ∷ whole 23 25 Any ∷ decimal 27 31 ∷ decimal 33 37 ∷
    whole 39 41 Any ∷ decimal 43 47 ∷ whole 49 51 Any ∷ decimal 53 57 ∷ whole 59 61 Any ∷ decimal 63 67 ∷
    whole 69 69 (Between 0 4) ∷ whole 71 71 (Between 0 4) ∷ []) ∷
    -- quality of streamer compasses
    layout "H21@2" "" (text 7 80 ∷ []) ∷
    -- quality of streamer depth sensors
    layout "H21@3" "" (text 7 80 ∷ []) ∷
    -- compass locations
    layout "H22@0" "" (
    whole! 7 9 (AtLeast 0) ∷ whole! 11 14 (AtLeast 1) ∷ text 16 23 ∷ decimal 25 32 ∷ whole 34 34 flag ∷
    second (whole! 36 39 (AtLeast 1) ∷ text 41 48 ∷ decimal 50 57 ∷ whole 59 59 flag ∷ [])) ∷
    -- how static compass corrections were found
    layout "H2300" "" (text 7 80 ∷ []) ∷
    -- static compass corrections
    layout "H23@0" "" (text! 7 14 ∷ decimal 15 20 ∷ pairs 8 21) ∷
    -- how dynamic compass corrections were found
    layout "H2301" "" (whole 7 7 flag ∷ text 9 80 ∷ []) ∷
    -- USBL transducer, a node
    layout "H16@1" "" (
    whole 7 7 (AtLeast 0) ∷ whole! 9 12 (AtLeast 1) ∷ decimal 14 20 ∷ decimal 22 28 ∷ decimal 30 35 ∷ decimal 37 41 ∷
    decimal 43 47 ∷ decimal 49 53 ∷ decimal 55 61 ∷ decimal 63 69 ∷ whole 71 71 flag ∷ decimal 73 80 ∷ []) ∷
    -- network node at a fixed place; its form may be blank
    layout "H5000" "" (
    whole! 7 10 (AtLeast 1) ∷ text 12 27 ∷ whole 29 29 flag ∷ latitude 31 42 ∷ longitude 44 55 ∷ decimal 57 63 ∷
    whole 65 65 flag ∷ whole 67 67 (Between 0 5) ∷ []) ∷
    -- network node on a vessel, a streamer or a float, H51@0 on paper: its digit is 0 for relay vessels and buoys
    layout "H51#0" "" (
    whole! 7 10 (AtLeast 1) ∷ text 12 27 ∷ whole 29 31 (AtLeast 0) ∷ decimal 33 39 ∷ decimal 41 47 ∷ decimal 49 55 ∷ []) ∷
    -- observation, what it is and between which nodes
    layout "H52##" "" (
    whole! 7 10 (AtLeast 1) ∷ text 12 27 ∷ whole 29 32 (AtLeast 1) ∷ whole 34 37 (AtLeast 0) ∷ whole 39 42 (AtLeast 0) ∷
    whole 44 45 (Between 0 11) ∷ whole 47 49 (AtLeast 1) ∷ text 51 80 ∷ []) ∷
    -- observation, its parameters
    layout "H54##" "" (
    whole 7 10 (AtLeast 1) ∷ decimal 12 23 ∷ decimal 25 36 ∷ whole 38 38 flag ∷ whole 40 40 flag ∷ decimal 42 53 ∷
    decimal 55 64 ∷ decimal 66 73 ∷ decimal 75 78 ∷ whole 80 80 (Between 0 4) ∷ []) ∷
    []

-- the passed codes: every other H code that section 5 of the format prints, as printed there
abbrev pub passed_table : List (List ℕ)
passed_table =
    bytes "H0130" ∷
    bytes "H0140" ∷
    bytes "H0150" ∷
    bytes "H0160" ∷
    bytes "H0170" ∷
    bytes "H0180" ∷
    bytes "H0181" ∷
    bytes "H0190" ∷
    bytes "H0199" ∷
    bytes "H0200" ∷
    bytes "H0210" ∷
    bytes "H0220" ∷
    bytes "H0230" ∷
    bytes "H0240" ∷
    bytes "H10@0" ∷
    bytes "H11@0" ∷
    bytes "H12@0" ∷
    bytes "H12@1" ∷
    bytes "H13@0" ∷
    bytes "H14@#" ∷
    bytes "H1500" ∷
    bytes "H1501" ∷
    bytes "H16@0" ∷
    bytes "H16@2" ∷
    bytes "H23@1" ∷
    bytes "H24@0" ∷
    bytes "H24@1" ∷
    bytes "H25@0" ∷
    bytes "H31@0" ∷
    bytes "H31@1" ∷
    bytes "H32@0" ∷
    bytes "H32@1" ∷
    bytes "H32@2" ∷
    bytes "H33@0" ∷
    bytes "H34@0" ∷
    bytes "H34@1" ∷
    bytes "H41@0" ∷
    bytes "H5306" ∷
    bytes "H5307" ∷
    bytes "H5500" ∷
    bytes "H56@0" ∷
    bytes "H600#" ∷
    bytes "H610#" ∷
    bytes "H620#" ∷
    bytes "H6300" ∷
    bytes "H6301" ∷
    bytes "H631#" ∷
    bytes "H632#" ∷
    bytes "H6330" ∷
    bytes "H65##" ∷
    bytes "H66##" ∷
    bytes "H67@0" ∷
    bytes "H7000" ∷
    bytes "H7010" ∷
    bytes "H7020" ∷
    bytes "H7021" ∷
    []

-- the two lists under the names that promises cite: a proof unfolds them where it computes with the lines
unfoldable pub layouts : List Layout
layouts = read_table

unfoldable pub passed_codes : List (List ℕ)
passed_codes = passed_table
