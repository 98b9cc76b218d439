-- The codes of ASCII characters that C gives a meaning (C99 5.2.1), by name.
use Rattle.std.specs.Prelude.{ℕ}

-- the codes that the escapes of C99 5.2.2 stand for
abbrev pub alert : ℕ
alert = 7

abbrev pub backspace : ℕ
backspace = 8

abbrev pub tab : ℕ
tab = 9

abbrev pub new_line : ℕ
new_line = 10

abbrev pub vertical_tab : ℕ
vertical_tab = 11

abbrev pub form_feed : ℕ
form_feed = 12

abbrev pub carriage_return : ℕ
carriage_return = 13

abbrev pub space : ℕ
space = 32

-- `"`
abbrev pub quote : ℕ
quote = 34

-- `#`
abbrev pub hash : ℕ
hash = 35

-- `'`
abbrev pub apostrophe : ℕ
apostrophe = 39

-- `*`
abbrev pub star : ℕ
star = 42

-- `+`
abbrev pub plus : ℕ
plus = 43

-- `-`
abbrev pub minus : ℕ
minus = 45

-- `.`
abbrev pub dot : ℕ
dot = 46

-- `/`
abbrev pub slash : ℕ
slash = 47

-- the digits from 0 on
abbrev pub digit_0 : ℕ
digit_0 = 48

abbrev pub digit_7 : ℕ
digit_7 = 55

-- `?`
abbrev pub question : ℕ
question = 63

abbrev pub capital_E : ℕ
capital_E = 69

abbrev pub capital_P : ℕ
capital_P = 80

-- `\`
abbrev pub backslash : ℕ
backslash = 92

-- `_`
abbrev pub underscore : ℕ
underscore = 95

abbrev pub letter_a : ℕ
letter_a = 97

abbrev pub letter_b : ℕ
letter_b = 98

abbrev pub letter_e : ℕ
letter_e = 101

abbrev pub letter_f : ℕ
letter_f = 102

abbrev pub letter_n : ℕ
letter_n = 110

abbrev pub letter_p : ℕ
letter_p = 112

abbrev pub letter_r : ℕ
letter_r = 114

abbrev pub letter_t : ℕ
letter_t = 116

abbrev pub letter_v : ℕ
letter_v = 118

abbrev pub letter_x : ℕ
letter_x = 120
