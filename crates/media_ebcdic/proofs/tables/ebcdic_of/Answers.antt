-- `media_ebcdic::tables::ebcdic_of` meets its contract: each arm is the entry of the table, by a computation.
use Rattle.media_ebcdic.specs.Tables.{ebcdic_of}
use Rattle.media_ebcdic.proofs.Lines.{same, last_byte}
use Rattle.media_ebcdic.proofs.tables.ebcdic_of.Goals as goal

pub returns-in-0 : goal.returns-in-0
unfolding ebcdic_of
returns-in-0 c = same ebcdic_of 0 _ c.in-0.is

pub returns-in-1 : goal.returns-in-1
unfolding ebcdic_of
returns-in-1 c = same ebcdic_of 1 _ c.in-1.is

pub returns-in-2 : goal.returns-in-2
unfolding ebcdic_of
returns-in-2 c = same ebcdic_of 2 _ c.in-2.is

pub returns-in-3 : goal.returns-in-3
unfolding ebcdic_of
returns-in-3 c = same ebcdic_of 3 _ c.in-3.is

pub returns-in-4 : goal.returns-in-4
unfolding ebcdic_of
returns-in-4 c = same ebcdic_of 4 _ c.in-4.is

pub returns-in-5 : goal.returns-in-5
unfolding ebcdic_of
returns-in-5 c = same ebcdic_of 5 _ c.in-5.is

pub returns-in-6 : goal.returns-in-6
unfolding ebcdic_of
returns-in-6 c = same ebcdic_of 6 _ c.in-6.is

pub returns-in-7 : goal.returns-in-7
unfolding ebcdic_of
returns-in-7 c = same ebcdic_of 7 _ c.in-7.is

pub returns-in-8 : goal.returns-in-8
unfolding ebcdic_of
returns-in-8 c = same ebcdic_of 8 _ c.in-8.is

pub returns-in-9 : goal.returns-in-9
unfolding ebcdic_of
returns-in-9 c = same ebcdic_of 9 _ c.in-9.is

pub returns-in-10 : goal.returns-in-10
unfolding ebcdic_of
returns-in-10 c = same ebcdic_of 10 _ c.in-10.is

pub returns-in-11 : goal.returns-in-11
unfolding ebcdic_of
returns-in-11 c = same ebcdic_of 11 _ c.in-11.is

pub returns-in-12 : goal.returns-in-12
unfolding ebcdic_of
returns-in-12 c = same ebcdic_of 12 _ c.in-12.is

pub returns-in-13 : goal.returns-in-13
unfolding ebcdic_of
returns-in-13 c = same ebcdic_of 13 _ c.in-13.is

pub returns-in-14 : goal.returns-in-14
unfolding ebcdic_of
returns-in-14 c = same ebcdic_of 14 _ c.in-14.is

pub returns-in-15 : goal.returns-in-15
unfolding ebcdic_of
returns-in-15 c = same ebcdic_of 15 _ c.in-15.is

pub returns-in-16 : goal.returns-in-16
unfolding ebcdic_of
returns-in-16 c = same ebcdic_of 16 _ c.in-16.is

pub returns-in-17 : goal.returns-in-17
unfolding ebcdic_of
returns-in-17 c = same ebcdic_of 17 _ c.in-17.is

pub returns-in-18 : goal.returns-in-18
unfolding ebcdic_of
returns-in-18 c = same ebcdic_of 18 _ c.in-18.is

pub returns-in-19 : goal.returns-in-19
unfolding ebcdic_of
returns-in-19 c = same ebcdic_of 19 _ c.in-19.is

pub returns-in-20 : goal.returns-in-20
unfolding ebcdic_of
returns-in-20 c = same ebcdic_of 20 _ c.in-20.is

pub returns-in-21 : goal.returns-in-21
unfolding ebcdic_of
returns-in-21 c = same ebcdic_of 21 _ c.in-21.is

pub returns-in-22 : goal.returns-in-22
unfolding ebcdic_of
returns-in-22 c = same ebcdic_of 22 _ c.in-22.is

pub returns-in-23 : goal.returns-in-23
unfolding ebcdic_of
returns-in-23 c = same ebcdic_of 23 _ c.in-23.is

pub returns-in-24 : goal.returns-in-24
unfolding ebcdic_of
returns-in-24 c = same ebcdic_of 24 _ c.in-24.is

pub returns-in-25 : goal.returns-in-25
unfolding ebcdic_of
returns-in-25 c = same ebcdic_of 25 _ c.in-25.is

pub returns-in-26 : goal.returns-in-26
unfolding ebcdic_of
returns-in-26 c = same ebcdic_of 26 _ c.in-26.is

pub returns-in-27 : goal.returns-in-27
unfolding ebcdic_of
returns-in-27 c = same ebcdic_of 27 _ c.in-27.is

pub returns-in-28 : goal.returns-in-28
unfolding ebcdic_of
returns-in-28 c = same ebcdic_of 28 _ c.in-28.is

pub returns-in-29 : goal.returns-in-29
unfolding ebcdic_of
returns-in-29 c = same ebcdic_of 29 _ c.in-29.is

pub returns-in-30 : goal.returns-in-30
unfolding ebcdic_of
returns-in-30 c = same ebcdic_of 30 _ c.in-30.is

pub returns-in-31 : goal.returns-in-31
unfolding ebcdic_of
returns-in-31 c = same ebcdic_of 31 _ c.in-31.is

pub returns-in-32 : goal.returns-in-32
unfolding ebcdic_of
returns-in-32 c = same ebcdic_of 32 _ c.in-32.is

pub returns-in-33 : goal.returns-in-33
unfolding ebcdic_of
returns-in-33 c = same ebcdic_of 33 _ c.in-33.is

pub returns-in-34 : goal.returns-in-34
unfolding ebcdic_of
returns-in-34 c = same ebcdic_of 34 _ c.in-34.is

pub returns-in-35 : goal.returns-in-35
unfolding ebcdic_of
returns-in-35 c = same ebcdic_of 35 _ c.in-35.is

pub returns-in-36 : goal.returns-in-36
unfolding ebcdic_of
returns-in-36 c = same ebcdic_of 36 _ c.in-36.is

pub returns-in-37 : goal.returns-in-37
unfolding ebcdic_of
returns-in-37 c = same ebcdic_of 37 _ c.in-37.is

pub returns-in-38 : goal.returns-in-38
unfolding ebcdic_of
returns-in-38 c = same ebcdic_of 38 _ c.in-38.is

pub returns-in-39 : goal.returns-in-39
unfolding ebcdic_of
returns-in-39 c = same ebcdic_of 39 _ c.in-39.is

pub returns-in-40 : goal.returns-in-40
unfolding ebcdic_of
returns-in-40 c = same ebcdic_of 40 _ c.in-40.is

pub returns-in-41 : goal.returns-in-41
unfolding ebcdic_of
returns-in-41 c = same ebcdic_of 41 _ c.in-41.is

pub returns-in-42 : goal.returns-in-42
unfolding ebcdic_of
returns-in-42 c = same ebcdic_of 42 _ c.in-42.is

pub returns-in-43 : goal.returns-in-43
unfolding ebcdic_of
returns-in-43 c = same ebcdic_of 43 _ c.in-43.is

pub returns-in-44 : goal.returns-in-44
unfolding ebcdic_of
returns-in-44 c = same ebcdic_of 44 _ c.in-44.is

pub returns-in-45 : goal.returns-in-45
unfolding ebcdic_of
returns-in-45 c = same ebcdic_of 45 _ c.in-45.is

pub returns-in-46 : goal.returns-in-46
unfolding ebcdic_of
returns-in-46 c = same ebcdic_of 46 _ c.in-46.is

pub returns-in-47 : goal.returns-in-47
unfolding ebcdic_of
returns-in-47 c = same ebcdic_of 47 _ c.in-47.is

pub returns-in-48 : goal.returns-in-48
unfolding ebcdic_of
returns-in-48 c = same ebcdic_of 48 _ c.in-48.is

pub returns-in-49 : goal.returns-in-49
unfolding ebcdic_of
returns-in-49 c = same ebcdic_of 49 _ c.in-49.is

pub returns-in-50 : goal.returns-in-50
unfolding ebcdic_of
returns-in-50 c = same ebcdic_of 50 _ c.in-50.is

pub returns-in-51 : goal.returns-in-51
unfolding ebcdic_of
returns-in-51 c = same ebcdic_of 51 _ c.in-51.is

pub returns-in-52 : goal.returns-in-52
unfolding ebcdic_of
returns-in-52 c = same ebcdic_of 52 _ c.in-52.is

pub returns-in-53 : goal.returns-in-53
unfolding ebcdic_of
returns-in-53 c = same ebcdic_of 53 _ c.in-53.is

pub returns-in-54 : goal.returns-in-54
unfolding ebcdic_of
returns-in-54 c = same ebcdic_of 54 _ c.in-54.is

pub returns-in-55 : goal.returns-in-55
unfolding ebcdic_of
returns-in-55 c = same ebcdic_of 55 _ c.in-55.is

pub returns-in-56 : goal.returns-in-56
unfolding ebcdic_of
returns-in-56 c = same ebcdic_of 56 _ c.in-56.is

pub returns-in-57 : goal.returns-in-57
unfolding ebcdic_of
returns-in-57 c = same ebcdic_of 57 _ c.in-57.is

pub returns-in-58 : goal.returns-in-58
unfolding ebcdic_of
returns-in-58 c = same ebcdic_of 58 _ c.in-58.is

pub returns-in-59 : goal.returns-in-59
unfolding ebcdic_of
returns-in-59 c = same ebcdic_of 59 _ c.in-59.is

pub returns-in-60 : goal.returns-in-60
unfolding ebcdic_of
returns-in-60 c = same ebcdic_of 60 _ c.in-60.is

pub returns-in-61 : goal.returns-in-61
unfolding ebcdic_of
returns-in-61 c = same ebcdic_of 61 _ c.in-61.is

pub returns-in-62 : goal.returns-in-62
unfolding ebcdic_of
returns-in-62 c = same ebcdic_of 62 _ c.in-62.is

pub returns-in-63 : goal.returns-in-63
unfolding ebcdic_of
returns-in-63 c = same ebcdic_of 63 _ c.in-63.is

pub returns-in-64 : goal.returns-in-64
unfolding ebcdic_of
returns-in-64 c = same ebcdic_of 64 _ c.in-64.is

pub returns-in-65 : goal.returns-in-65
unfolding ebcdic_of
returns-in-65 c = same ebcdic_of 65 _ c.in-65.is

pub returns-in-66 : goal.returns-in-66
unfolding ebcdic_of
returns-in-66 c = same ebcdic_of 66 _ c.in-66.is

pub returns-in-67 : goal.returns-in-67
unfolding ebcdic_of
returns-in-67 c = same ebcdic_of 67 _ c.in-67.is

pub returns-in-68 : goal.returns-in-68
unfolding ebcdic_of
returns-in-68 c = same ebcdic_of 68 _ c.in-68.is

pub returns-in-69 : goal.returns-in-69
unfolding ebcdic_of
returns-in-69 c = same ebcdic_of 69 _ c.in-69.is

pub returns-in-70 : goal.returns-in-70
unfolding ebcdic_of
returns-in-70 c = same ebcdic_of 70 _ c.in-70.is

pub returns-in-71 : goal.returns-in-71
unfolding ebcdic_of
returns-in-71 c = same ebcdic_of 71 _ c.in-71.is

pub returns-in-72 : goal.returns-in-72
unfolding ebcdic_of
returns-in-72 c = same ebcdic_of 72 _ c.in-72.is

pub returns-in-73 : goal.returns-in-73
unfolding ebcdic_of
returns-in-73 c = same ebcdic_of 73 _ c.in-73.is

pub returns-in-74 : goal.returns-in-74
unfolding ebcdic_of
returns-in-74 c = same ebcdic_of 74 _ c.in-74.is

pub returns-in-75 : goal.returns-in-75
unfolding ebcdic_of
returns-in-75 c = same ebcdic_of 75 _ c.in-75.is

pub returns-in-76 : goal.returns-in-76
unfolding ebcdic_of
returns-in-76 c = same ebcdic_of 76 _ c.in-76.is

pub returns-in-77 : goal.returns-in-77
unfolding ebcdic_of
returns-in-77 c = same ebcdic_of 77 _ c.in-77.is

pub returns-in-78 : goal.returns-in-78
unfolding ebcdic_of
returns-in-78 c = same ebcdic_of 78 _ c.in-78.is

pub returns-in-79 : goal.returns-in-79
unfolding ebcdic_of
returns-in-79 c = same ebcdic_of 79 _ c.in-79.is

pub returns-in-80 : goal.returns-in-80
unfolding ebcdic_of
returns-in-80 c = same ebcdic_of 80 _ c.in-80.is

pub returns-in-81 : goal.returns-in-81
unfolding ebcdic_of
returns-in-81 c = same ebcdic_of 81 _ c.in-81.is

pub returns-in-82 : goal.returns-in-82
unfolding ebcdic_of
returns-in-82 c = same ebcdic_of 82 _ c.in-82.is

pub returns-in-83 : goal.returns-in-83
unfolding ebcdic_of
returns-in-83 c = same ebcdic_of 83 _ c.in-83.is

pub returns-in-84 : goal.returns-in-84
unfolding ebcdic_of
returns-in-84 c = same ebcdic_of 84 _ c.in-84.is

pub returns-in-85 : goal.returns-in-85
unfolding ebcdic_of
returns-in-85 c = same ebcdic_of 85 _ c.in-85.is

pub returns-in-86 : goal.returns-in-86
unfolding ebcdic_of
returns-in-86 c = same ebcdic_of 86 _ c.in-86.is

pub returns-in-87 : goal.returns-in-87
unfolding ebcdic_of
returns-in-87 c = same ebcdic_of 87 _ c.in-87.is

pub returns-in-88 : goal.returns-in-88
unfolding ebcdic_of
returns-in-88 c = same ebcdic_of 88 _ c.in-88.is

pub returns-in-89 : goal.returns-in-89
unfolding ebcdic_of
returns-in-89 c = same ebcdic_of 89 _ c.in-89.is

pub returns-in-90 : goal.returns-in-90
unfolding ebcdic_of
returns-in-90 c = same ebcdic_of 90 _ c.in-90.is

pub returns-in-91 : goal.returns-in-91
unfolding ebcdic_of
returns-in-91 c = same ebcdic_of 91 _ c.in-91.is

pub returns-in-92 : goal.returns-in-92
unfolding ebcdic_of
returns-in-92 c = same ebcdic_of 92 _ c.in-92.is

pub returns-in-93 : goal.returns-in-93
unfolding ebcdic_of
returns-in-93 c = same ebcdic_of 93 _ c.in-93.is

pub returns-in-94 : goal.returns-in-94
unfolding ebcdic_of
returns-in-94 c = same ebcdic_of 94 _ c.in-94.is

pub returns-in-95 : goal.returns-in-95
unfolding ebcdic_of
returns-in-95 c = same ebcdic_of 95 _ c.in-95.is

pub returns-in-96 : goal.returns-in-96
unfolding ebcdic_of
returns-in-96 c = same ebcdic_of 96 _ c.in-96.is

pub returns-in-97 : goal.returns-in-97
unfolding ebcdic_of
returns-in-97 c = same ebcdic_of 97 _ c.in-97.is

pub returns-in-98 : goal.returns-in-98
unfolding ebcdic_of
returns-in-98 c = same ebcdic_of 98 _ c.in-98.is

pub returns-in-99 : goal.returns-in-99
unfolding ebcdic_of
returns-in-99 c = same ebcdic_of 99 _ c.in-99.is

pub returns-in-100 : goal.returns-in-100
unfolding ebcdic_of
returns-in-100 c = same ebcdic_of 100 _ c.in-100.is

pub returns-in-101 : goal.returns-in-101
unfolding ebcdic_of
returns-in-101 c = same ebcdic_of 101 _ c.in-101.is

pub returns-in-102 : goal.returns-in-102
unfolding ebcdic_of
returns-in-102 c = same ebcdic_of 102 _ c.in-102.is

pub returns-in-103 : goal.returns-in-103
unfolding ebcdic_of
returns-in-103 c = same ebcdic_of 103 _ c.in-103.is

pub returns-in-104 : goal.returns-in-104
unfolding ebcdic_of
returns-in-104 c = same ebcdic_of 104 _ c.in-104.is

pub returns-in-105 : goal.returns-in-105
unfolding ebcdic_of
returns-in-105 c = same ebcdic_of 105 _ c.in-105.is

pub returns-in-106 : goal.returns-in-106
unfolding ebcdic_of
returns-in-106 c = same ebcdic_of 106 _ c.in-106.is

pub returns-in-107 : goal.returns-in-107
unfolding ebcdic_of
returns-in-107 c = same ebcdic_of 107 _ c.in-107.is

pub returns-in-108 : goal.returns-in-108
unfolding ebcdic_of
returns-in-108 c = same ebcdic_of 108 _ c.in-108.is

pub returns-in-109 : goal.returns-in-109
unfolding ebcdic_of
returns-in-109 c = same ebcdic_of 109 _ c.in-109.is

pub returns-in-110 : goal.returns-in-110
unfolding ebcdic_of
returns-in-110 c = same ebcdic_of 110 _ c.in-110.is

pub returns-in-111 : goal.returns-in-111
unfolding ebcdic_of
returns-in-111 c = same ebcdic_of 111 _ c.in-111.is

pub returns-in-112 : goal.returns-in-112
unfolding ebcdic_of
returns-in-112 c = same ebcdic_of 112 _ c.in-112.is

pub returns-in-113 : goal.returns-in-113
unfolding ebcdic_of
returns-in-113 c = same ebcdic_of 113 _ c.in-113.is

pub returns-in-114 : goal.returns-in-114
unfolding ebcdic_of
returns-in-114 c = same ebcdic_of 114 _ c.in-114.is

pub returns-in-115 : goal.returns-in-115
unfolding ebcdic_of
returns-in-115 c = same ebcdic_of 115 _ c.in-115.is

pub returns-in-116 : goal.returns-in-116
unfolding ebcdic_of
returns-in-116 c = same ebcdic_of 116 _ c.in-116.is

pub returns-in-117 : goal.returns-in-117
unfolding ebcdic_of
returns-in-117 c = same ebcdic_of 117 _ c.in-117.is

pub returns-in-118 : goal.returns-in-118
unfolding ebcdic_of
returns-in-118 c = same ebcdic_of 118 _ c.in-118.is

pub returns-in-119 : goal.returns-in-119
unfolding ebcdic_of
returns-in-119 c = same ebcdic_of 119 _ c.in-119.is

pub returns-in-120 : goal.returns-in-120
unfolding ebcdic_of
returns-in-120 c = same ebcdic_of 120 _ c.in-120.is

pub returns-in-121 : goal.returns-in-121
unfolding ebcdic_of
returns-in-121 c = same ebcdic_of 121 _ c.in-121.is

pub returns-in-122 : goal.returns-in-122
unfolding ebcdic_of
returns-in-122 c = same ebcdic_of 122 _ c.in-122.is

pub returns-in-123 : goal.returns-in-123
unfolding ebcdic_of
returns-in-123 c = same ebcdic_of 123 _ c.in-123.is

pub returns-in-124 : goal.returns-in-124
unfolding ebcdic_of
returns-in-124 c = same ebcdic_of 124 _ c.in-124.is

pub returns-in-125 : goal.returns-in-125
unfolding ebcdic_of
returns-in-125 c = same ebcdic_of 125 _ c.in-125.is

pub returns-in-126 : goal.returns-in-126
unfolding ebcdic_of
returns-in-126 c = same ebcdic_of 126 _ c.in-126.is

pub returns-in-127 : goal.returns-in-127
unfolding ebcdic_of
returns-in-127 c = same ebcdic_of 127 _ c.in-127.is

pub returns-in-128 : goal.returns-in-128
unfolding ebcdic_of
returns-in-128 c = same ebcdic_of 128 _ c.in-128.is

pub returns-in-129 : goal.returns-in-129
unfolding ebcdic_of
returns-in-129 c = same ebcdic_of 129 _ c.in-129.is

pub returns-in-130 : goal.returns-in-130
unfolding ebcdic_of
returns-in-130 c = same ebcdic_of 130 _ c.in-130.is

pub returns-in-131 : goal.returns-in-131
unfolding ebcdic_of
returns-in-131 c = same ebcdic_of 131 _ c.in-131.is

pub returns-in-132 : goal.returns-in-132
unfolding ebcdic_of
returns-in-132 c = same ebcdic_of 132 _ c.in-132.is

pub returns-in-133 : goal.returns-in-133
unfolding ebcdic_of
returns-in-133 c = same ebcdic_of 133 _ c.in-133.is

pub returns-in-134 : goal.returns-in-134
unfolding ebcdic_of
returns-in-134 c = same ebcdic_of 134 _ c.in-134.is

pub returns-in-135 : goal.returns-in-135
unfolding ebcdic_of
returns-in-135 c = same ebcdic_of 135 _ c.in-135.is

pub returns-in-136 : goal.returns-in-136
unfolding ebcdic_of
returns-in-136 c = same ebcdic_of 136 _ c.in-136.is

pub returns-in-137 : goal.returns-in-137
unfolding ebcdic_of
returns-in-137 c = same ebcdic_of 137 _ c.in-137.is

pub returns-in-138 : goal.returns-in-138
unfolding ebcdic_of
returns-in-138 c = same ebcdic_of 138 _ c.in-138.is

pub returns-in-139 : goal.returns-in-139
unfolding ebcdic_of
returns-in-139 c = same ebcdic_of 139 _ c.in-139.is

pub returns-in-140 : goal.returns-in-140
unfolding ebcdic_of
returns-in-140 c = same ebcdic_of 140 _ c.in-140.is

pub returns-in-141 : goal.returns-in-141
unfolding ebcdic_of
returns-in-141 c = same ebcdic_of 141 _ c.in-141.is

pub returns-in-142 : goal.returns-in-142
unfolding ebcdic_of
returns-in-142 c = same ebcdic_of 142 _ c.in-142.is

pub returns-in-143 : goal.returns-in-143
unfolding ebcdic_of
returns-in-143 c = same ebcdic_of 143 _ c.in-143.is

pub returns-in-144 : goal.returns-in-144
unfolding ebcdic_of
returns-in-144 c = same ebcdic_of 144 _ c.in-144.is

pub returns-in-145 : goal.returns-in-145
unfolding ebcdic_of
returns-in-145 c = same ebcdic_of 145 _ c.in-145.is

pub returns-in-146 : goal.returns-in-146
unfolding ebcdic_of
returns-in-146 c = same ebcdic_of 146 _ c.in-146.is

pub returns-in-147 : goal.returns-in-147
unfolding ebcdic_of
returns-in-147 c = same ebcdic_of 147 _ c.in-147.is

pub returns-in-148 : goal.returns-in-148
unfolding ebcdic_of
returns-in-148 c = same ebcdic_of 148 _ c.in-148.is

pub returns-in-149 : goal.returns-in-149
unfolding ebcdic_of
returns-in-149 c = same ebcdic_of 149 _ c.in-149.is

pub returns-in-150 : goal.returns-in-150
unfolding ebcdic_of
returns-in-150 c = same ebcdic_of 150 _ c.in-150.is

pub returns-in-151 : goal.returns-in-151
unfolding ebcdic_of
returns-in-151 c = same ebcdic_of 151 _ c.in-151.is

pub returns-in-152 : goal.returns-in-152
unfolding ebcdic_of
returns-in-152 c = same ebcdic_of 152 _ c.in-152.is

pub returns-in-153 : goal.returns-in-153
unfolding ebcdic_of
returns-in-153 c = same ebcdic_of 153 _ c.in-153.is

pub returns-in-154 : goal.returns-in-154
unfolding ebcdic_of
returns-in-154 c = same ebcdic_of 154 _ c.in-154.is

pub returns-in-155 : goal.returns-in-155
unfolding ebcdic_of
returns-in-155 c = same ebcdic_of 155 _ c.in-155.is

pub returns-in-156 : goal.returns-in-156
unfolding ebcdic_of
returns-in-156 c = same ebcdic_of 156 _ c.in-156.is

pub returns-in-157 : goal.returns-in-157
unfolding ebcdic_of
returns-in-157 c = same ebcdic_of 157 _ c.in-157.is

pub returns-in-158 : goal.returns-in-158
unfolding ebcdic_of
returns-in-158 c = same ebcdic_of 158 _ c.in-158.is

pub returns-in-159 : goal.returns-in-159
unfolding ebcdic_of
returns-in-159 c = same ebcdic_of 159 _ c.in-159.is

pub returns-in-160 : goal.returns-in-160
unfolding ebcdic_of
returns-in-160 c = same ebcdic_of 160 _ c.in-160.is

pub returns-in-161 : goal.returns-in-161
unfolding ebcdic_of
returns-in-161 c = same ebcdic_of 161 _ c.in-161.is

pub returns-in-162 : goal.returns-in-162
unfolding ebcdic_of
returns-in-162 c = same ebcdic_of 162 _ c.in-162.is

pub returns-in-163 : goal.returns-in-163
unfolding ebcdic_of
returns-in-163 c = same ebcdic_of 163 _ c.in-163.is

pub returns-in-164 : goal.returns-in-164
unfolding ebcdic_of
returns-in-164 c = same ebcdic_of 164 _ c.in-164.is

pub returns-in-165 : goal.returns-in-165
unfolding ebcdic_of
returns-in-165 c = same ebcdic_of 165 _ c.in-165.is

pub returns-in-166 : goal.returns-in-166
unfolding ebcdic_of
returns-in-166 c = same ebcdic_of 166 _ c.in-166.is

pub returns-in-167 : goal.returns-in-167
unfolding ebcdic_of
returns-in-167 c = same ebcdic_of 167 _ c.in-167.is

pub returns-in-168 : goal.returns-in-168
unfolding ebcdic_of
returns-in-168 c = same ebcdic_of 168 _ c.in-168.is

pub returns-in-169 : goal.returns-in-169
unfolding ebcdic_of
returns-in-169 c = same ebcdic_of 169 _ c.in-169.is

pub returns-in-170 : goal.returns-in-170
unfolding ebcdic_of
returns-in-170 c = same ebcdic_of 170 _ c.in-170.is

pub returns-in-171 : goal.returns-in-171
unfolding ebcdic_of
returns-in-171 c = same ebcdic_of 171 _ c.in-171.is

pub returns-in-172 : goal.returns-in-172
unfolding ebcdic_of
returns-in-172 c = same ebcdic_of 172 _ c.in-172.is

pub returns-in-173 : goal.returns-in-173
unfolding ebcdic_of
returns-in-173 c = same ebcdic_of 173 _ c.in-173.is

pub returns-in-174 : goal.returns-in-174
unfolding ebcdic_of
returns-in-174 c = same ebcdic_of 174 _ c.in-174.is

pub returns-in-175 : goal.returns-in-175
unfolding ebcdic_of
returns-in-175 c = same ebcdic_of 175 _ c.in-175.is

pub returns-in-176 : goal.returns-in-176
unfolding ebcdic_of
returns-in-176 c = same ebcdic_of 176 _ c.in-176.is

pub returns-in-177 : goal.returns-in-177
unfolding ebcdic_of
returns-in-177 c = same ebcdic_of 177 _ c.in-177.is

pub returns-in-178 : goal.returns-in-178
unfolding ebcdic_of
returns-in-178 c = same ebcdic_of 178 _ c.in-178.is

pub returns-in-179 : goal.returns-in-179
unfolding ebcdic_of
returns-in-179 c = same ebcdic_of 179 _ c.in-179.is

pub returns-in-180 : goal.returns-in-180
unfolding ebcdic_of
returns-in-180 c = same ebcdic_of 180 _ c.in-180.is

pub returns-in-181 : goal.returns-in-181
unfolding ebcdic_of
returns-in-181 c = same ebcdic_of 181 _ c.in-181.is

pub returns-in-182 : goal.returns-in-182
unfolding ebcdic_of
returns-in-182 c = same ebcdic_of 182 _ c.in-182.is

pub returns-in-183 : goal.returns-in-183
unfolding ebcdic_of
returns-in-183 c = same ebcdic_of 183 _ c.in-183.is

pub returns-in-184 : goal.returns-in-184
unfolding ebcdic_of
returns-in-184 c = same ebcdic_of 184 _ c.in-184.is

pub returns-in-185 : goal.returns-in-185
unfolding ebcdic_of
returns-in-185 c = same ebcdic_of 185 _ c.in-185.is

pub returns-in-186 : goal.returns-in-186
unfolding ebcdic_of
returns-in-186 c = same ebcdic_of 186 _ c.in-186.is

pub returns-in-187 : goal.returns-in-187
unfolding ebcdic_of
returns-in-187 c = same ebcdic_of 187 _ c.in-187.is

pub returns-in-188 : goal.returns-in-188
unfolding ebcdic_of
returns-in-188 c = same ebcdic_of 188 _ c.in-188.is

pub returns-in-189 : goal.returns-in-189
unfolding ebcdic_of
returns-in-189 c = same ebcdic_of 189 _ c.in-189.is

pub returns-in-190 : goal.returns-in-190
unfolding ebcdic_of
returns-in-190 c = same ebcdic_of 190 _ c.in-190.is

pub returns-in-191 : goal.returns-in-191
unfolding ebcdic_of
returns-in-191 c = same ebcdic_of 191 _ c.in-191.is

pub returns-in-192 : goal.returns-in-192
unfolding ebcdic_of
returns-in-192 c = same ebcdic_of 192 _ c.in-192.is

pub returns-in-193 : goal.returns-in-193
unfolding ebcdic_of
returns-in-193 c = same ebcdic_of 193 _ c.in-193.is

pub returns-in-194 : goal.returns-in-194
unfolding ebcdic_of
returns-in-194 c = same ebcdic_of 194 _ c.in-194.is

pub returns-in-195 : goal.returns-in-195
unfolding ebcdic_of
returns-in-195 c = same ebcdic_of 195 _ c.in-195.is

pub returns-in-196 : goal.returns-in-196
unfolding ebcdic_of
returns-in-196 c = same ebcdic_of 196 _ c.in-196.is

pub returns-in-197 : goal.returns-in-197
unfolding ebcdic_of
returns-in-197 c = same ebcdic_of 197 _ c.in-197.is

pub returns-in-198 : goal.returns-in-198
unfolding ebcdic_of
returns-in-198 c = same ebcdic_of 198 _ c.in-198.is

pub returns-in-199 : goal.returns-in-199
unfolding ebcdic_of
returns-in-199 c = same ebcdic_of 199 _ c.in-199.is

pub returns-in-200 : goal.returns-in-200
unfolding ebcdic_of
returns-in-200 c = same ebcdic_of 200 _ c.in-200.is

pub returns-in-201 : goal.returns-in-201
unfolding ebcdic_of
returns-in-201 c = same ebcdic_of 201 _ c.in-201.is

pub returns-in-202 : goal.returns-in-202
unfolding ebcdic_of
returns-in-202 c = same ebcdic_of 202 _ c.in-202.is

pub returns-in-203 : goal.returns-in-203
unfolding ebcdic_of
returns-in-203 c = same ebcdic_of 203 _ c.in-203.is

pub returns-in-204 : goal.returns-in-204
unfolding ebcdic_of
returns-in-204 c = same ebcdic_of 204 _ c.in-204.is

pub returns-in-205 : goal.returns-in-205
unfolding ebcdic_of
returns-in-205 c = same ebcdic_of 205 _ c.in-205.is

pub returns-in-206 : goal.returns-in-206
unfolding ebcdic_of
returns-in-206 c = same ebcdic_of 206 _ c.in-206.is

pub returns-in-207 : goal.returns-in-207
unfolding ebcdic_of
returns-in-207 c = same ebcdic_of 207 _ c.in-207.is

pub returns-in-208 : goal.returns-in-208
unfolding ebcdic_of
returns-in-208 c = same ebcdic_of 208 _ c.in-208.is

pub returns-in-209 : goal.returns-in-209
unfolding ebcdic_of
returns-in-209 c = same ebcdic_of 209 _ c.in-209.is

pub returns-in-210 : goal.returns-in-210
unfolding ebcdic_of
returns-in-210 c = same ebcdic_of 210 _ c.in-210.is

pub returns-in-211 : goal.returns-in-211
unfolding ebcdic_of
returns-in-211 c = same ebcdic_of 211 _ c.in-211.is

pub returns-in-212 : goal.returns-in-212
unfolding ebcdic_of
returns-in-212 c = same ebcdic_of 212 _ c.in-212.is

pub returns-in-213 : goal.returns-in-213
unfolding ebcdic_of
returns-in-213 c = same ebcdic_of 213 _ c.in-213.is

pub returns-in-214 : goal.returns-in-214
unfolding ebcdic_of
returns-in-214 c = same ebcdic_of 214 _ c.in-214.is

pub returns-in-215 : goal.returns-in-215
unfolding ebcdic_of
returns-in-215 c = same ebcdic_of 215 _ c.in-215.is

pub returns-in-216 : goal.returns-in-216
unfolding ebcdic_of
returns-in-216 c = same ebcdic_of 216 _ c.in-216.is

pub returns-in-217 : goal.returns-in-217
unfolding ebcdic_of
returns-in-217 c = same ebcdic_of 217 _ c.in-217.is

pub returns-in-218 : goal.returns-in-218
unfolding ebcdic_of
returns-in-218 c = same ebcdic_of 218 _ c.in-218.is

pub returns-in-219 : goal.returns-in-219
unfolding ebcdic_of
returns-in-219 c = same ebcdic_of 219 _ c.in-219.is

pub returns-in-220 : goal.returns-in-220
unfolding ebcdic_of
returns-in-220 c = same ebcdic_of 220 _ c.in-220.is

pub returns-in-221 : goal.returns-in-221
unfolding ebcdic_of
returns-in-221 c = same ebcdic_of 221 _ c.in-221.is

pub returns-in-222 : goal.returns-in-222
unfolding ebcdic_of
returns-in-222 c = same ebcdic_of 222 _ c.in-222.is

pub returns-in-223 : goal.returns-in-223
unfolding ebcdic_of
returns-in-223 c = same ebcdic_of 223 _ c.in-223.is

pub returns-in-224 : goal.returns-in-224
unfolding ebcdic_of
returns-in-224 c = same ebcdic_of 224 _ c.in-224.is

pub returns-in-225 : goal.returns-in-225
unfolding ebcdic_of
returns-in-225 c = same ebcdic_of 225 _ c.in-225.is

pub returns-in-226 : goal.returns-in-226
unfolding ebcdic_of
returns-in-226 c = same ebcdic_of 226 _ c.in-226.is

pub returns-in-227 : goal.returns-in-227
unfolding ebcdic_of
returns-in-227 c = same ebcdic_of 227 _ c.in-227.is

pub returns-in-228 : goal.returns-in-228
unfolding ebcdic_of
returns-in-228 c = same ebcdic_of 228 _ c.in-228.is

pub returns-in-229 : goal.returns-in-229
unfolding ebcdic_of
returns-in-229 c = same ebcdic_of 229 _ c.in-229.is

pub returns-in-230 : goal.returns-in-230
unfolding ebcdic_of
returns-in-230 c = same ebcdic_of 230 _ c.in-230.is

pub returns-in-231 : goal.returns-in-231
unfolding ebcdic_of
returns-in-231 c = same ebcdic_of 231 _ c.in-231.is

pub returns-in-232 : goal.returns-in-232
unfolding ebcdic_of
returns-in-232 c = same ebcdic_of 232 _ c.in-232.is

pub returns-in-233 : goal.returns-in-233
unfolding ebcdic_of
returns-in-233 c = same ebcdic_of 233 _ c.in-233.is

pub returns-in-234 : goal.returns-in-234
unfolding ebcdic_of
returns-in-234 c = same ebcdic_of 234 _ c.in-234.is

pub returns-in-235 : goal.returns-in-235
unfolding ebcdic_of
returns-in-235 c = same ebcdic_of 235 _ c.in-235.is

pub returns-in-236 : goal.returns-in-236
unfolding ebcdic_of
returns-in-236 c = same ebcdic_of 236 _ c.in-236.is

pub returns-in-237 : goal.returns-in-237
unfolding ebcdic_of
returns-in-237 c = same ebcdic_of 237 _ c.in-237.is

pub returns-in-238 : goal.returns-in-238
unfolding ebcdic_of
returns-in-238 c = same ebcdic_of 238 _ c.in-238.is

pub returns-in-239 : goal.returns-in-239
unfolding ebcdic_of
returns-in-239 c = same ebcdic_of 239 _ c.in-239.is

pub returns-in-240 : goal.returns-in-240
unfolding ebcdic_of
returns-in-240 c = same ebcdic_of 240 _ c.in-240.is

pub returns-in-241 : goal.returns-in-241
unfolding ebcdic_of
returns-in-241 c = same ebcdic_of 241 _ c.in-241.is

pub returns-in-242 : goal.returns-in-242
unfolding ebcdic_of
returns-in-242 c = same ebcdic_of 242 _ c.in-242.is

pub returns-in-243 : goal.returns-in-243
unfolding ebcdic_of
returns-in-243 c = same ebcdic_of 243 _ c.in-243.is

pub returns-in-244 : goal.returns-in-244
unfolding ebcdic_of
returns-in-244 c = same ebcdic_of 244 _ c.in-244.is

pub returns-in-245 : goal.returns-in-245
unfolding ebcdic_of
returns-in-245 c = same ebcdic_of 245 _ c.in-245.is

pub returns-in-246 : goal.returns-in-246
unfolding ebcdic_of
returns-in-246 c = same ebcdic_of 246 _ c.in-246.is

pub returns-in-247 : goal.returns-in-247
unfolding ebcdic_of
returns-in-247 c = same ebcdic_of 247 _ c.in-247.is

pub returns-in-248 : goal.returns-in-248
unfolding ebcdic_of
returns-in-248 c = same ebcdic_of 248 _ c.in-248.is

pub returns-in-249 : goal.returns-in-249
unfolding ebcdic_of
returns-in-249 c = same ebcdic_of 249 _ c.in-249.is

pub returns-in-250 : goal.returns-in-250
unfolding ebcdic_of
returns-in-250 c = same ebcdic_of 250 _ c.in-250.is

pub returns-in-251 : goal.returns-in-251
unfolding ebcdic_of
returns-in-251 c = same ebcdic_of 251 _ c.in-251.is

pub returns-in-252 : goal.returns-in-252
unfolding ebcdic_of
returns-in-252 c = same ebcdic_of 252 _ c.in-252.is

pub returns-in-253 : goal.returns-in-253
unfolding ebcdic_of
returns-in-253 c = same ebcdic_of 253 _ c.in-253.is

pub returns-in-254 : goal.returns-in-254
unfolding ebcdic_of
returns-in-254 c = same ebcdic_of 254 _ c.in-254.is

pub returns-in_default : goal.returns-in_default
unfolding ebcdic_of
returns-in_default c = same ebcdic_of 255 _ (last_byte _ c.ranges.byte.fits c.in_default.in_default-own.rest)
