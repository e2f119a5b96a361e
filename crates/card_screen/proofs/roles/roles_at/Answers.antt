-- `card_screen::roles::roles_at` meets its contract: each line by a computation.
use Rattle.format_layout.specs.Table.{layouts}
use Rattle.format_layout.specs.Layouts.{layout_at, fields_of, label_of}
use Rattle.card_screen.specs.Roles.{roles_for, roles_from, plain, roles_of, word_at}
use Rattle.card_screen.proofs.Lines.{same_word, past_words}
use Rattle.card_screen.proofs.roles.roles_at.Goals as goal

pub returns-in-0 : goal.returns-in-0
unfolding layouts layout_at fields_of label_of roles_for roles_from plain roles_of word_at
returns-in-0 c = same_word 0 _ c.in-0.is

pub returns-in-1 : goal.returns-in-1
unfolding layouts layout_at fields_of label_of roles_for roles_from plain roles_of word_at
returns-in-1 c = same_word 1 _ c.in-1.is

pub returns-in-2 : goal.returns-in-2
unfolding layouts layout_at fields_of label_of roles_for roles_from plain roles_of word_at
returns-in-2 c = same_word 2 _ c.in-2.is

pub returns-in-3 : goal.returns-in-3
unfolding layouts layout_at fields_of label_of roles_for roles_from plain roles_of word_at
returns-in-3 c = same_word 3 _ c.in-3.is

pub returns-in-4 : goal.returns-in-4
unfolding layouts layout_at fields_of label_of roles_for roles_from plain roles_of word_at
returns-in-4 c = same_word 4 _ c.in-4.is

pub returns-in-5 : goal.returns-in-5
unfolding layouts layout_at fields_of label_of roles_for roles_from plain roles_of word_at
returns-in-5 c = same_word 5 _ c.in-5.is

pub returns-in-6 : goal.returns-in-6
unfolding layouts layout_at fields_of label_of roles_for roles_from plain roles_of word_at
returns-in-6 c = same_word 6 _ c.in-6.is

pub returns-in-7 : goal.returns-in-7
unfolding layouts layout_at fields_of label_of roles_for roles_from plain roles_of word_at
returns-in-7 c = same_word 7 _ c.in-7.is

pub returns-in-8 : goal.returns-in-8
unfolding layouts layout_at fields_of label_of roles_for roles_from plain roles_of word_at
returns-in-8 c = same_word 8 _ c.in-8.is

pub returns-in-9 : goal.returns-in-9
unfolding layouts layout_at fields_of label_of roles_for roles_from plain roles_of word_at
returns-in-9 c = same_word 9 _ c.in-9.is

pub returns-in-10 : goal.returns-in-10
unfolding layouts layout_at fields_of label_of roles_for roles_from plain roles_of word_at
returns-in-10 c = same_word 10 _ c.in-10.is

pub returns-in-11 : goal.returns-in-11
unfolding layouts layout_at fields_of label_of roles_for roles_from plain roles_of word_at
returns-in-11 c = same_word 11 _ c.in-11.is

pub returns-in-12 : goal.returns-in-12
unfolding layouts layout_at fields_of label_of roles_for roles_from plain roles_of word_at
returns-in-12 c = same_word 12 _ c.in-12.is

pub returns-in-13 : goal.returns-in-13
unfolding layouts layout_at fields_of label_of roles_for roles_from plain roles_of word_at
returns-in-13 c = same_word 13 _ c.in-13.is

pub returns-in-14 : goal.returns-in-14
unfolding layouts layout_at fields_of label_of roles_for roles_from plain roles_of word_at
returns-in-14 c = same_word 14 _ c.in-14.is

pub returns-in-15 : goal.returns-in-15
unfolding layouts layout_at fields_of label_of roles_for roles_from plain roles_of word_at
returns-in-15 c = same_word 15 _ c.in-15.is

pub returns-in-16 : goal.returns-in-16
unfolding layouts layout_at fields_of label_of roles_for roles_from plain roles_of word_at
returns-in-16 c = same_word 16 _ c.in-16.is

pub returns-in-17 : goal.returns-in-17
unfolding layouts layout_at fields_of label_of roles_for roles_from plain roles_of word_at
returns-in-17 c = same_word 17 _ c.in-17.is

pub returns-in-18 : goal.returns-in-18
unfolding layouts layout_at fields_of label_of roles_for roles_from plain roles_of word_at
returns-in-18 c = same_word 18 _ c.in-18.is

pub returns-in-19 : goal.returns-in-19
unfolding layouts layout_at fields_of label_of roles_for roles_from plain roles_of word_at
returns-in-19 c = same_word 19 _ c.in-19.is

pub returns-in-20 : goal.returns-in-20
unfolding layouts layout_at fields_of label_of roles_for roles_from plain roles_of word_at
returns-in-20 c = same_word 20 _ c.in-20.is

pub returns-in-21 : goal.returns-in-21
unfolding layouts layout_at fields_of label_of roles_for roles_from plain roles_of word_at
returns-in-21 c = same_word 21 _ c.in-21.is

pub returns-in-22 : goal.returns-in-22
unfolding layouts layout_at fields_of label_of roles_for roles_from plain roles_of word_at
returns-in-22 c = same_word 22 _ c.in-22.is

pub returns-in-23 : goal.returns-in-23
unfolding layouts layout_at fields_of label_of roles_for roles_from plain roles_of word_at
returns-in-23 c = same_word 23 _ c.in-23.is

pub returns-in-24 : goal.returns-in-24
unfolding layouts layout_at fields_of label_of roles_for roles_from plain roles_of word_at
returns-in-24 c = same_word 24 _ c.in-24.is

pub returns-in-25 : goal.returns-in-25
unfolding layouts layout_at fields_of label_of roles_for roles_from plain roles_of word_at
returns-in-25 c = same_word 25 _ c.in-25.is

pub returns-in-26 : goal.returns-in-26
unfolding layouts layout_at fields_of label_of roles_for roles_from plain roles_of word_at
returns-in-26 c = same_word 26 _ c.in-26.is

pub returns-in-27 : goal.returns-in-27
unfolding layouts layout_at fields_of label_of roles_for roles_from plain roles_of word_at
returns-in-27 c = same_word 27 _ c.in-27.is

pub returns-in-28 : goal.returns-in-28
unfolding layouts layout_at fields_of label_of roles_for roles_from plain roles_of word_at
returns-in-28 c = same_word 28 _ c.in-28.is

pub returns-in-29 : goal.returns-in-29
unfolding layouts layout_at fields_of label_of roles_for roles_from plain roles_of word_at
returns-in-29 c = same_word 29 _ c.in-29.is

pub returns-in-30 : goal.returns-in-30
unfolding layouts layout_at fields_of label_of roles_for roles_from plain roles_of word_at
returns-in-30 c = same_word 30 _ c.in-30.is

pub returns-in-31 : goal.returns-in-31
unfolding layouts layout_at fields_of label_of roles_for roles_from plain roles_of word_at
returns-in-31 c = same_word 31 _ c.in-31.is

pub returns-in-32 : goal.returns-in-32
unfolding layouts layout_at fields_of label_of roles_for roles_from plain roles_of word_at
returns-in-32 c = same_word 32 _ c.in-32.is

pub returns-in-33 : goal.returns-in-33
unfolding layouts layout_at fields_of label_of roles_for roles_from plain roles_of word_at
returns-in-33 c = same_word 33 _ c.in-33.is

pub returns-in-34 : goal.returns-in-34
unfolding layouts layout_at fields_of label_of roles_for roles_from plain roles_of word_at
returns-in-34 c = same_word 34 _ c.in-34.is

pub returns-in-35 : goal.returns-in-35
unfolding layouts layout_at fields_of label_of roles_for roles_from plain roles_of word_at
returns-in-35 c = same_word 35 _ c.in-35.is

pub returns-in-36 : goal.returns-in-36
unfolding layouts layout_at fields_of label_of roles_for roles_from plain roles_of word_at
returns-in-36 c = same_word 36 _ c.in-36.is

pub returns-in-37 : goal.returns-in-37
unfolding layouts layout_at fields_of label_of roles_for roles_from plain roles_of word_at
returns-in-37 c = same_word 37 _ c.in-37.is

pub returns-in-38 : goal.returns-in-38
unfolding layouts layout_at fields_of label_of roles_for roles_from plain roles_of word_at
returns-in-38 c = same_word 38 _ c.in-38.is

pub returns-in-39 : goal.returns-in-39
unfolding layouts layout_at fields_of label_of roles_for roles_from plain roles_of word_at
returns-in-39 c = same_word 39 _ c.in-39.is

pub returns-in-40 : goal.returns-in-40
unfolding layouts layout_at fields_of label_of roles_for roles_from plain roles_of word_at
returns-in-40 c = same_word 40 _ c.in-40.is

pub returns-in-41 : goal.returns-in-41
unfolding layouts layout_at fields_of label_of roles_for roles_from plain roles_of word_at
returns-in-41 c = same_word 41 _ c.in-41.is

pub returns-in-42 : goal.returns-in-42
unfolding layouts layout_at fields_of label_of roles_for roles_from plain roles_of word_at
returns-in-42 c = same_word 42 _ c.in-42.is

pub returns-in-43 : goal.returns-in-43
unfolding layouts layout_at fields_of label_of roles_for roles_from plain roles_of word_at
returns-in-43 c = same_word 43 _ c.in-43.is

pub returns-in-44 : goal.returns-in-44
unfolding layouts layout_at fields_of label_of roles_for roles_from plain roles_of word_at
returns-in-44 c = same_word 44 _ c.in-44.is

pub returns-in-45 : goal.returns-in-45
unfolding layouts layout_at fields_of label_of roles_for roles_from plain roles_of word_at
returns-in-45 c = same_word 45 _ c.in-45.is

pub returns-in-46 : goal.returns-in-46
unfolding layouts layout_at fields_of label_of roles_for roles_from plain roles_of word_at
returns-in-46 c = same_word 46 _ c.in-46.is

pub returns-in-47 : goal.returns-in-47
unfolding layouts layout_at fields_of label_of roles_for roles_from plain roles_of word_at
returns-in-47 c = same_word 47 _ c.in-47.is

pub returns-in-48 : goal.returns-in-48
unfolding layouts layout_at fields_of label_of roles_for roles_from plain roles_of word_at
returns-in-48 c = same_word 48 _ c.in-48.is

pub returns-in-49 : goal.returns-in-49
unfolding layouts layout_at fields_of label_of roles_for roles_from plain roles_of word_at
returns-in-49 c = same_word 49 _ c.in-49.is

pub returns-in-50 : goal.returns-in-50
unfolding layouts layout_at fields_of label_of roles_for roles_from plain roles_of word_at
returns-in-50 c = same_word 50 _ c.in-50.is

pub returns-in-51 : goal.returns-in-51
unfolding layouts layout_at fields_of label_of roles_for roles_from plain roles_of word_at
returns-in-51 c = same_word 51 _ c.in-51.is

pub returns-in-52 : goal.returns-in-52
unfolding layouts layout_at fields_of label_of roles_for roles_from plain roles_of word_at
returns-in-52 c = same_word 52 _ c.in-52.is

pub returns-in-53 : goal.returns-in-53
unfolding layouts layout_at fields_of label_of roles_for roles_from plain roles_of word_at
returns-in-53 c = same_word 53 _ c.in-53.is

pub returns-in-54 : goal.returns-in-54
unfolding layouts layout_at fields_of label_of roles_for roles_from plain roles_of word_at
returns-in-54 c = same_word 54 _ c.in-54.is

pub returns-in-55 : goal.returns-in-55
unfolding layouts layout_at fields_of label_of roles_for roles_from plain roles_of word_at
returns-in-55 c = same_word 55 _ c.in-55.is

pub returns-in-56 : goal.returns-in-56
unfolding layouts layout_at fields_of label_of roles_for roles_from plain roles_of word_at
returns-in-56 c = same_word 56 _ c.in-56.is

pub returns-in-57 : goal.returns-in-57
unfolding layouts layout_at fields_of label_of roles_for roles_from plain roles_of word_at
returns-in-57 c = same_word 57 _ c.in-57.is

pub returns-in-58 : goal.returns-in-58
unfolding layouts layout_at fields_of label_of roles_for roles_from plain roles_of word_at
returns-in-58 c = same_word 58 _ c.in-58.is

pub returns-in-59 : goal.returns-in-59
unfolding layouts layout_at fields_of label_of roles_for roles_from plain roles_of word_at
returns-in-59 c = same_word 59 _ c.in-59.is

pub returns-in-60 : goal.returns-in-60
unfolding layouts layout_at fields_of label_of roles_for roles_from plain roles_of word_at
returns-in-60 c = same_word 60 _ c.in-60.is

pub returns-in-61 : goal.returns-in-61
unfolding layouts layout_at fields_of label_of roles_for roles_from plain roles_of word_at
returns-in-61 c = same_word 61 _ c.in-61.is

pub returns-in-62 : goal.returns-in-62
unfolding layouts layout_at fields_of label_of roles_for roles_from plain roles_of word_at
returns-in-62 c = same_word 62 _ c.in-62.is

pub returns-in-63 : goal.returns-in-63
unfolding layouts layout_at fields_of label_of roles_for roles_from plain roles_of word_at
returns-in-63 c = same_word 63 _ c.in-63.is

pub returns-in-64 : goal.returns-in-64
unfolding layouts layout_at fields_of label_of roles_for roles_from plain roles_of word_at
returns-in-64 c = same_word 64 _ c.in-64.is

pub returns-in-65 : goal.returns-in-65
unfolding layouts layout_at fields_of label_of roles_for roles_from plain roles_of word_at
returns-in-65 c = same_word 65 _ c.in-65.is

pub returns-in-66 : goal.returns-in-66
unfolding layouts layout_at fields_of label_of roles_for roles_from plain roles_of word_at
returns-in-66 c = same_word 66 _ c.in-66.is

pub returns-in-67 : goal.returns-in-67
unfolding layouts layout_at fields_of label_of roles_for roles_from plain roles_of word_at
returns-in-67 c = same_word 67 _ c.in-67.is

pub returns-in-68 : goal.returns-in-68
unfolding layouts layout_at fields_of label_of roles_for roles_from plain roles_of word_at
returns-in-68 c = same_word 68 _ c.in-68.is

pub returns-in-69 : goal.returns-in-69
unfolding layouts layout_at fields_of label_of roles_for roles_from plain roles_of word_at
returns-in-69 c = same_word 69 _ c.in-69.is

pub returns-in-70 : goal.returns-in-70
unfolding layouts layout_at fields_of label_of roles_for roles_from plain roles_of word_at
returns-in-70 c = same_word 70 _ c.in-70.is

pub returns-in-71 : goal.returns-in-71
unfolding layouts layout_at fields_of label_of roles_for roles_from plain roles_of word_at
returns-in-71 c = same_word 71 _ c.in-71.is

pub returns-in-72 : goal.returns-in-72
unfolding layouts layout_at fields_of label_of roles_for roles_from plain roles_of word_at
returns-in-72 c = same_word 72 _ c.in-72.is

pub returns-in-73 : goal.returns-in-73
unfolding layouts layout_at fields_of label_of roles_for roles_from plain roles_of word_at
returns-in-73 c = same_word 73 _ c.in-73.is

pub returns-in-74 : goal.returns-in-74
unfolding layouts layout_at fields_of label_of roles_for roles_from plain roles_of word_at
returns-in-74 c = same_word 74 _ c.in-74.is

pub returns-in-75 : goal.returns-in-75
unfolding layouts layout_at fields_of label_of roles_for roles_from plain roles_of word_at
returns-in-75 c = same_word 75 _ c.in-75.is

pub returns-in-76 : goal.returns-in-76
unfolding layouts layout_at fields_of label_of roles_for roles_from plain roles_of word_at
returns-in-76 c = same_word 76 _ c.in-76.is

pub returns-in-77 : goal.returns-in-77
unfolding layouts layout_at fields_of label_of roles_for roles_from plain roles_of word_at
returns-in-77 c = same_word 77 _ c.in-77.is

pub returns-in-78 : goal.returns-in-78
unfolding layouts layout_at fields_of label_of roles_for roles_from plain roles_of word_at
returns-in-78 c = same_word 78 _ c.in-78.is

pub returns-in-79 : goal.returns-in-79
unfolding layouts layout_at fields_of label_of roles_for roles_from plain roles_of word_at
returns-in-79 c = same_word 79 _ c.in-79.is

pub returns-in-80 : goal.returns-in-80
unfolding layouts layout_at fields_of label_of roles_for roles_from plain roles_of word_at
returns-in-80 c = same_word 80 _ c.in-80.is

pub returns-in-81 : goal.returns-in-81
unfolding layouts layout_at fields_of label_of roles_for roles_from plain roles_of word_at
returns-in-81 c = same_word 81 _ c.in-81.is

pub returns-in-82 : goal.returns-in-82
unfolding layouts layout_at fields_of label_of roles_for roles_from plain roles_of word_at
returns-in-82 c = same_word 82 _ c.in-82.is

pub returns-in-83 : goal.returns-in-83
unfolding layouts layout_at fields_of label_of roles_for roles_from plain roles_of word_at
returns-in-83 c = same_word 83 _ c.in-83.is

pub returns-in-84 : goal.returns-in-84
unfolding layouts layout_at fields_of label_of roles_for roles_from plain roles_of word_at
returns-in-84 c = same_word 84 _ c.in-84.is

pub returns-in-85 : goal.returns-in-85
unfolding layouts layout_at fields_of label_of roles_for roles_from plain roles_of word_at
returns-in-85 c = same_word 85 _ c.in-85.is

pub returns-in-86 : goal.returns-in-86
unfolding layouts layout_at fields_of label_of roles_for roles_from plain roles_of word_at
returns-in-86 c = same_word 86 _ c.in-86.is

pub returns-in-87 : goal.returns-in-87
unfolding layouts layout_at fields_of label_of roles_for roles_from plain roles_of word_at
returns-in-87 c = same_word 87 _ c.in-87.is

pub returns-in-88 : goal.returns-in-88
unfolding layouts layout_at fields_of label_of roles_for roles_from plain roles_of word_at
returns-in-88 c = same_word 88 _ c.in-88.is

pub returns-in-89 : goal.returns-in-89
unfolding layouts layout_at fields_of label_of roles_for roles_from plain roles_of word_at
returns-in-89 c = same_word 89 _ c.in-89.is

pub returns-in-90 : goal.returns-in-90
unfolding layouts layout_at fields_of label_of roles_for roles_from plain roles_of word_at
returns-in-90 c = same_word 90 _ c.in-90.is

pub returns-in-91 : goal.returns-in-91
unfolding layouts layout_at fields_of label_of roles_for roles_from plain roles_of word_at
returns-in-91 c = same_word 91 _ c.in-91.is

pub returns-in-92 : goal.returns-in-92
unfolding layouts layout_at fields_of label_of roles_for roles_from plain roles_of word_at
returns-in-92 c = same_word 92 _ c.in-92.is

pub returns-in-93 : goal.returns-in-93
unfolding layouts layout_at fields_of label_of roles_for roles_from plain roles_of word_at
returns-in-93 c = same_word 93 _ c.in-93.is

pub returns-in-94 : goal.returns-in-94
unfolding layouts layout_at fields_of label_of roles_for roles_from plain roles_of word_at
returns-in-94 c = same_word 94 _ c.in-94.is

pub returns-in-95 : goal.returns-in-95
unfolding layouts layout_at fields_of label_of roles_for roles_from plain roles_of word_at
returns-in-95 c = same_word 95 _ c.in-95.is

pub returns-in-96 : goal.returns-in-96
unfolding layouts layout_at fields_of label_of roles_for roles_from plain roles_of word_at
returns-in-96 c = same_word 96 _ c.in-96.is

pub returns-in-97 : goal.returns-in-97
unfolding layouts layout_at fields_of label_of roles_for roles_from plain roles_of word_at
returns-in-97 c = same_word 97 _ c.in-97.is

pub returns-in-98 : goal.returns-in-98
unfolding layouts layout_at fields_of label_of roles_for roles_from plain roles_of word_at
returns-in-98 c = same_word 98 _ c.in-98.is

pub returns-in-99 : goal.returns-in-99
unfolding layouts layout_at fields_of label_of roles_for roles_from plain roles_of word_at
returns-in-99 c = same_word 99 _ c.in-99.is

pub returns-in-100 : goal.returns-in-100
unfolding layouts layout_at fields_of label_of roles_for roles_from plain roles_of word_at
returns-in-100 c = same_word 100 _ c.in-100.is

pub returns-in-101 : goal.returns-in-101
unfolding layouts layout_at fields_of label_of roles_for roles_from plain roles_of word_at
returns-in-101 c = same_word 101 _ c.in-101.is

pub returns-in-102 : goal.returns-in-102
unfolding layouts layout_at fields_of label_of roles_for roles_from plain roles_of word_at
returns-in-102 c = same_word 102 _ c.in-102.is

pub returns-in-103 : goal.returns-in-103
unfolding layouts layout_at fields_of label_of roles_for roles_from plain roles_of word_at
returns-in-103 c = same_word 103 _ c.in-103.is

pub returns-in-104 : goal.returns-in-104
unfolding layouts layout_at fields_of label_of roles_for roles_from plain roles_of word_at
returns-in-104 c = same_word 104 _ c.in-104.is

pub returns-in-105 : goal.returns-in-105
unfolding layouts layout_at fields_of label_of roles_for roles_from plain roles_of word_at
returns-in-105 c = same_word 105 _ c.in-105.is

pub returns-in-106 : goal.returns-in-106
unfolding layouts layout_at fields_of label_of roles_for roles_from plain roles_of word_at
returns-in-106 c = same_word 106 _ c.in-106.is

pub returns-in-107 : goal.returns-in-107
unfolding layouts layout_at fields_of label_of roles_for roles_from plain roles_of word_at
returns-in-107 c = same_word 107 _ c.in-107.is

pub returns-in-108 : goal.returns-in-108
unfolding layouts layout_at fields_of label_of roles_for roles_from plain roles_of word_at
returns-in-108 c = same_word 108 _ c.in-108.is

pub returns-in-109 : goal.returns-in-109
unfolding layouts layout_at fields_of label_of roles_for roles_from plain roles_of word_at
returns-in-109 c = same_word 109 _ c.in-109.is

pub returns-in-110 : goal.returns-in-110
unfolding layouts layout_at fields_of label_of roles_for roles_from plain roles_of word_at
returns-in-110 c = same_word 110 _ c.in-110.is

pub returns-in-111 : goal.returns-in-111
unfolding layouts layout_at fields_of label_of roles_for roles_from plain roles_of word_at
returns-in-111 c = same_word 111 _ c.in-111.is

pub returns-in-112 : goal.returns-in-112
unfolding layouts layout_at fields_of label_of roles_for roles_from plain roles_of word_at
returns-in-112 c = same_word 112 _ c.in-112.is

pub returns-in-113 : goal.returns-in-113
unfolding layouts layout_at fields_of label_of roles_for roles_from plain roles_of word_at
returns-in-113 c = same_word 113 _ c.in-113.is

pub returns-in-114 : goal.returns-in-114
unfolding layouts layout_at fields_of label_of roles_for roles_from plain roles_of word_at
returns-in-114 c = same_word 114 _ c.in-114.is

pub returns-in-115 : goal.returns-in-115
unfolding layouts layout_at fields_of label_of roles_for roles_from plain roles_of word_at
returns-in-115 c = same_word 115 _ c.in-115.is

pub returns-in-116 : goal.returns-in-116
unfolding layouts layout_at fields_of label_of roles_for roles_from plain roles_of word_at
returns-in-116 c = same_word 116 _ c.in-116.is

pub returns-in-117 : goal.returns-in-117
unfolding layouts layout_at fields_of label_of roles_for roles_from plain roles_of word_at
returns-in-117 c = same_word 117 _ c.in-117.is

pub returns-in-118 : goal.returns-in-118
unfolding layouts layout_at fields_of label_of roles_for roles_from plain roles_of word_at
returns-in-118 c = same_word 118 _ c.in-118.is

pub returns-in-119 : goal.returns-in-119
unfolding layouts layout_at fields_of label_of roles_for roles_from plain roles_of word_at
returns-in-119 c = same_word 119 _ c.in-119.is

pub returns-in-120 : goal.returns-in-120
unfolding layouts layout_at fields_of label_of roles_for roles_from plain roles_of word_at
returns-in-120 c = same_word 120 _ c.in-120.is

pub returns-in-121 : goal.returns-in-121
unfolding layouts layout_at fields_of label_of roles_for roles_from plain roles_of word_at
returns-in-121 c = same_word 121 _ c.in-121.is

pub returns-in-122 : goal.returns-in-122
unfolding layouts layout_at fields_of label_of roles_for roles_from plain roles_of word_at
returns-in-122 c = same_word 122 _ c.in-122.is

pub returns-in-123 : goal.returns-in-123
unfolding layouts layout_at fields_of label_of roles_for roles_from plain roles_of word_at
returns-in-123 c = same_word 123 _ c.in-123.is

pub returns-in-124 : goal.returns-in-124
unfolding layouts layout_at fields_of label_of roles_for roles_from plain roles_of word_at
returns-in-124 c = same_word 124 _ c.in-124.is

pub returns-in-125 : goal.returns-in-125
unfolding layouts layout_at fields_of label_of roles_for roles_from plain roles_of word_at
returns-in-125 c = same_word 125 _ c.in-125.is

pub returns-in-126 : goal.returns-in-126
unfolding layouts layout_at fields_of label_of roles_for roles_from plain roles_of word_at
returns-in-126 c = same_word 126 _ c.in-126.is

pub returns-in-127 : goal.returns-in-127
unfolding layouts layout_at fields_of label_of roles_for roles_from plain roles_of word_at
returns-in-127 c = same_word 127 _ c.in-127.is

pub returns-in-128 : goal.returns-in-128
unfolding layouts layout_at fields_of label_of roles_for roles_from plain roles_of word_at
returns-in-128 c = same_word 128 _ c.in-128.is

pub returns-in-129 : goal.returns-in-129
unfolding layouts layout_at fields_of label_of roles_for roles_from plain roles_of word_at
returns-in-129 c = same_word 129 _ c.in-129.is

pub returns-in-130 : goal.returns-in-130
unfolding layouts layout_at fields_of label_of roles_for roles_from plain roles_of word_at
returns-in-130 c = same_word 130 _ c.in-130.is

pub returns-in-131 : goal.returns-in-131
unfolding layouts layout_at fields_of label_of roles_for roles_from plain roles_of word_at
returns-in-131 c = same_word 131 _ c.in-131.is

pub returns-in-132 : goal.returns-in-132
unfolding layouts layout_at fields_of label_of roles_for roles_from plain roles_of word_at
returns-in-132 c = same_word 132 _ c.in-132.is

pub returns-in-133 : goal.returns-in-133
unfolding layouts layout_at fields_of label_of roles_for roles_from plain roles_of word_at
returns-in-133 c = same_word 133 _ c.in-133.is

pub returns-in-134 : goal.returns-in-134
unfolding layouts layout_at fields_of label_of roles_for roles_from plain roles_of word_at
returns-in-134 c = same_word 134 _ c.in-134.is

pub returns-in-135 : goal.returns-in-135
unfolding layouts layout_at fields_of label_of roles_for roles_from plain roles_of word_at
returns-in-135 c = same_word 135 _ c.in-135.is

pub returns-in-136 : goal.returns-in-136
unfolding layouts layout_at fields_of label_of roles_for roles_from plain roles_of word_at
returns-in-136 c = same_word 136 _ c.in-136.is

pub returns-in-137 : goal.returns-in-137
unfolding layouts layout_at fields_of label_of roles_for roles_from plain roles_of word_at
returns-in-137 c = same_word 137 _ c.in-137.is

pub returns-in-138 : goal.returns-in-138
unfolding layouts layout_at fields_of label_of roles_for roles_from plain roles_of word_at
returns-in-138 c = same_word 138 _ c.in-138.is

pub returns-in-139 : goal.returns-in-139
unfolding layouts layout_at fields_of label_of roles_for roles_from plain roles_of word_at
returns-in-139 c = same_word 139 _ c.in-139.is

pub returns-in-140 : goal.returns-in-140
unfolding layouts layout_at fields_of label_of roles_for roles_from plain roles_of word_at
returns-in-140 c = same_word 140 _ c.in-140.is

pub returns-in-141 : goal.returns-in-141
unfolding layouts layout_at fields_of label_of roles_for roles_from plain roles_of word_at
returns-in-141 c = same_word 141 _ c.in-141.is

pub returns-in-142 : goal.returns-in-142
unfolding layouts layout_at fields_of label_of roles_for roles_from plain roles_of word_at
returns-in-142 c = same_word 142 _ c.in-142.is

pub returns-in-143 : goal.returns-in-143
unfolding layouts layout_at fields_of label_of roles_for roles_from plain roles_of word_at
returns-in-143 c = same_word 143 _ c.in-143.is

pub returns-in-144 : goal.returns-in-144
unfolding layouts layout_at fields_of label_of roles_for roles_from plain roles_of word_at
returns-in-144 c = same_word 144 _ c.in-144.is

pub returns-in-145 : goal.returns-in-145
unfolding layouts layout_at fields_of label_of roles_for roles_from plain roles_of word_at
returns-in-145 c = same_word 145 _ c.in-145.is

pub returns-in-146 : goal.returns-in-146
unfolding layouts layout_at fields_of label_of roles_for roles_from plain roles_of word_at
returns-in-146 c = same_word 146 _ c.in-146.is

pub returns-in-147 : goal.returns-in-147
unfolding layouts layout_at fields_of label_of roles_for roles_from plain roles_of word_at
returns-in-147 c = same_word 147 _ c.in-147.is

pub returns-in-148 : goal.returns-in-148
unfolding layouts layout_at fields_of label_of roles_for roles_from plain roles_of word_at
returns-in-148 c = same_word 148 _ c.in-148.is

pub returns-in-149 : goal.returns-in-149
unfolding layouts layout_at fields_of label_of roles_for roles_from plain roles_of word_at
returns-in-149 c = same_word 149 _ c.in-149.is

pub returns-in-150 : goal.returns-in-150
unfolding layouts layout_at fields_of label_of roles_for roles_from plain roles_of word_at
returns-in-150 c = same_word 150 _ c.in-150.is

pub returns-in-151 : goal.returns-in-151
unfolding layouts layout_at fields_of label_of roles_for roles_from plain roles_of word_at
returns-in-151 c = same_word 151 _ c.in-151.is

pub returns-in-152 : goal.returns-in-152
unfolding layouts layout_at fields_of label_of roles_for roles_from plain roles_of word_at
returns-in-152 c = same_word 152 _ c.in-152.is

pub returns-in-153 : goal.returns-in-153
unfolding layouts layout_at fields_of label_of roles_for roles_from plain roles_of word_at
returns-in-153 c = same_word 153 _ c.in-153.is

pub returns-in-154 : goal.returns-in-154
unfolding layouts layout_at fields_of label_of roles_for roles_from plain roles_of word_at
returns-in-154 c = same_word 154 _ c.in-154.is

pub returns-in_default : goal.returns-in_default
unfolding layouts layout_at fields_of label_of roles_for roles_from plain roles_of word_at
returns-in_default c = past_words _ c.in_default.in_default-own.rest
