-- Bytes by their names.
use Rattle.std.specs.Prelude.{ℕ}

abbrev pub space : ℕ
space = 32

abbrev pub tab : ℕ
tab = 9

abbrev pub line_feed : ℕ
line_feed = 10

abbrev pub carriage_return : ℕ
carriage_return = 13

abbrev pub quote : ℕ
quote = 34

abbrev pub backslash : ℕ
backslash = 92

abbrev pub slash : ℕ
slash = 47

abbrev pub left_bracket : ℕ
left_bracket = 91

abbrev pub right_bracket : ℕ
right_bracket = 93

abbrev pub left_brace : ℕ
left_brace = 123

abbrev pub right_brace : ℕ
right_brace = 125

abbrev pub comma : ℕ
comma = 44

abbrev pub colon : ℕ
colon = 58

abbrev pub plus_sign : ℕ
plus_sign = 43

abbrev pub minus_sign : ℕ
minus_sign = 45

abbrev pub decimal_point : ℕ
decimal_point = 46

abbrev pub digit_0 : ℕ
digit_0 = 48

abbrev pub digit_1 : ℕ
digit_1 = 49

abbrev pub digit_9 : ℕ
digit_9 = 57

abbrev pub upper_a : ℕ
upper_a = 65

abbrev pub upper_e : ℕ
upper_e = 69

abbrev pub upper_f : ℕ
upper_f = 70

abbrev pub lower_a : ℕ
lower_a = 97

abbrev pub lower_b : ℕ
lower_b = 98

abbrev pub lower_e : ℕ
lower_e = 101

abbrev pub lower_f : ℕ
lower_f = 102

abbrev pub lower_n : ℕ
lower_n = 110

abbrev pub lower_r : ℕ
lower_r = 114

abbrev pub lower_t : ℕ
lower_t = 116

abbrev pub lower_u : ℕ
lower_u = 117

abbrev pub tilde : ℕ
tilde = 126

-- The three bytes of a byte order mark in UTF-8.
abbrev pub mark_first : ℕ
mark_first = 239

abbrev pub mark_second : ℕ
mark_second = 187

abbrev pub mark_third : ℕ
mark_third = 191
