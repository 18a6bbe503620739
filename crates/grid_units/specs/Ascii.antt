-- The bytes of ASCII that the formats give a meaning, by their names.
use Rattle.std.specs.Prelude.{ℕ}

-- `b'\t'`
abbrev pub tab : ℕ
tab = 9

-- `b'\n'`
abbrev pub line_feed : ℕ
line_feed = 10

-- `b'\r'`
abbrev pub carriage_return : ℕ
carriage_return = 13

-- `b' '`
abbrev pub space : ℕ
space = 32

-- `b'$'`
abbrev pub dollar : ℕ
dollar = 36

-- `b'%'`
abbrev pub percent : ℕ
percent = 37

-- `b'&'`
abbrev pub ampersand : ℕ
ampersand = 38

-- `b'*'`
abbrev pub asterisk : ℕ
asterisk = 42

-- `b'+'`
abbrev pub plus : ℕ
plus = 43

-- `b','`
abbrev pub comma : ℕ
comma = 44

-- `b'-'`
abbrev pub minus : ℕ
minus = 45

-- `b'.'`
abbrev pub point : ℕ
point = 46

-- `b'/'`
abbrev pub slash : ℕ
slash = 47

-- `b'0'`
abbrev pub digit_zero : ℕ
digit_zero = 48

-- `b'1'`
abbrev pub digit_one : ℕ
digit_one = 49

-- `b'6'`
abbrev pub digit_six : ℕ
digit_six = 54

-- `b'9'`
abbrev pub digit_nine : ℕ
digit_nine = 57

-- `b':'`
abbrev pub colon : ℕ
colon = 58

-- `b';'`
abbrev pub semicolon : ℕ
semicolon = 59

-- `b'<'`
abbrev pub less_than : ℕ
less_than = 60

-- `b'>'`
abbrev pub greater_than : ℕ
greater_than = 62

-- `b'A'`
abbrev pub upper_a : ℕ
upper_a = 65

-- `b'B'`
abbrev pub upper_b : ℕ
upper_b = 66

-- `b'C'`
abbrev pub upper_c : ℕ
upper_c = 67

-- `b'D'`
abbrev pub upper_d : ℕ
upper_d = 68

-- `b'F'`
abbrev pub upper_f : ℕ
upper_f = 70

-- `b'H'`
abbrev pub upper_h : ℕ
upper_h = 72

-- `b'I'`
abbrev pub upper_i : ℕ
upper_i = 73

-- `b'J'`
abbrev pub upper_j : ℕ
upper_j = 74

-- `b'S'`
abbrev pub upper_s : ℕ
upper_s = 83

-- `b'T'`
abbrev pub upper_t : ℕ
upper_t = 84

-- `b'X'`
abbrev pub upper_x : ℕ
upper_x = 88

-- `b'Y'`
abbrev pub upper_y : ℕ
upper_y = 89

-- `b'Z'`
abbrev pub upper_z : ℕ
upper_z = 90

-- `b'_'`
abbrev pub underscore : ℕ
underscore = 95

-- `b'a'`
abbrev pub lower_a : ℕ
lower_a = 97

-- `b'z'`
abbrev pub lower_z : ℕ
lower_z = 122

-- `b'\x7f'`
abbrev pub delete : ℕ
delete = 127
