-- The layouts that rules speak of, by their numbers in the table; X stands for a digit that the code leaves open.
use Rattle.std.specs.Prelude.{ℕ}

-- line parameters and waypoints of a vessel
abbrev pub H00X8 : ℕ
H00X8 = 8

abbrev pub H00X9 : ℕ
H00X9 = 9

-- the variation grid and its points
abbrev pub H0100 : ℕ
H0100 = 12

abbrev pub H0101 : ℕ
H0101 = 13

-- datums and the shifts between them
abbrev pub H011X : ℕ
H011X = 14

abbrev pub H0120 : ℕ
H0120 = 15

-- motion sensors
abbrev pub H17X0 : ℕ
H17X0 = 16

abbrev pub H17X1 : ℕ
H17X1 = 17

-- streamers
abbrev pub H21X0 : ℕ
H21X0 = 18

abbrev pub H21X1 : ℕ
H21X1 = 19

abbrev pub H21X2 : ℕ
H21X2 = 20

abbrev pub H21X3 : ℕ
H21X3 = 21

-- compasses and their corrections
abbrev pub H22X0 : ℕ
H22X0 = 22

abbrev pub H23X0 : ℕ
H23X0 = 24

-- nodes of the network, and observations between them
abbrev pub H16X1 : ℕ
H16X1 = 26

abbrev pub H5000 : ℕ
H5000 = 27

abbrev pub H51X0 : ℕ
H51X0 = 28

abbrev pub H52XX : ℕ
H52XX = 29

abbrev pub H54XX : ℕ
H54XX = 30
