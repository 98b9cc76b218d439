-- Words: keywords, and the words that the code UnsupportedWord refuses.
use Rattle.std.specs.Prelude.{ℕ, Bool, ◌||◌, nat_eq, List, [], ◌∷◌, codes, Option}
use Rattle.std.specs.List.{list_any, find, starts_with}
use Rattle.std.specs.Str.{bytes_eq}
use Rattle.lk_lex.specs.declared.keyword.Keyword.{Keyword}
use Rattle.lk_lex.specs.declared.keyword.Keyword.TheVariants as k

-- C99 6.4.1
abbrev pub spelling : Keyword → List ℕ
spelling k.Auto = codes "auto"
spelling k.Break = codes "break"
spelling k.Case = codes "case"
spelling k.Char = codes "char"
spelling k.Const = codes "const"
spelling k.Continue = codes "continue"
spelling k.Default = codes "default"
spelling k.Do = codes "do"
spelling k.Double = codes "double"
spelling k.Else = codes "else"
spelling k.Enum = codes "enum"
spelling k.Extern = codes "extern"
spelling k.Float = codes "float"
spelling k.For = codes "for"
spelling k.Goto = codes "goto"
spelling k.If = codes "if"
spelling k.Inline = codes "inline"
spelling k.Int = codes "int"
spelling k.Long = codes "long"
spelling k.Register = codes "register"
spelling k.Restrict = codes "restrict"
spelling k.Return = codes "return"
spelling k.Short = codes "short"
spelling k.Signed = codes "signed"
spelling k.Sizeof = codes "sizeof"
spelling k.Static = codes "static"
spelling k.Struct = codes "struct"
spelling k.Switch = codes "switch"
spelling k.Typedef = codes "typedef"
spelling k.Union = codes "union"
spelling k.Unsigned = codes "unsigned"
spelling k.Void = codes "void"
spelling k.Volatile = codes "volatile"
spelling k.While = codes "while"
spelling k.Bool = codes "_Bool"
spelling k.Complex = codes "_Complex"
spelling k.Imaginary = codes "_Imaginary"

abbrev pub keywords : List Keyword
keywords =
    k.Auto ∷ k.Break ∷ k.Case ∷ k.Char ∷ k.Const ∷ k.Continue ∷ k.Default ∷ k.Do ∷
    k.Double ∷ k.Else ∷ k.Enum ∷
    k.Extern ∷ k.Float ∷ k.For ∷ k.Goto ∷ k.If ∷ k.Inline ∷ k.Int ∷ k.Long ∷ k.Register ∷
    k.Restrict ∷ k.Return ∷
    k.Short ∷ k.Signed ∷ k.Sizeof ∷ k.Static ∷ k.Struct ∷ k.Switch ∷ k.Typedef ∷ k.Union ∷
    k.Unsigned ∷ k.Void ∷
    k.Volatile ∷ k.While ∷ k.Bool ∷ k.Complex ∷ k.Imaginary ∷ []

-- the keyword that a word is, where it is one
unfoldable pub keyword_of : List ℕ → Option Keyword
keyword_of text = find (λ keyword. bytes_eq text (spelling keyword)) keywords

-- keywords of C99 for types that are left out, words of C11, and words of compilers
abbrev pub unsupported_words : List (List ℕ)
unsupported_words =
    codes "float" ∷ codes "double" ∷ codes "union" ∷ codes "_Complex" ∷ codes "_Imaginary" ∷ codes "_Atomic" ∷
    codes "_Generic" ∷ codes "_Alignas" ∷ codes "_Alignof" ∷ codes "_Noreturn" ∷ codes "_Static_assert" ∷
    codes "_Thread_local" ∷ codes "__thread" ∷ codes "__int128" ∷ codes "asm" ∷
    codes "__asm" ∷ codes "__asm__" ∷
    codes "typeof" ∷ codes "__typeof__" ∷ codes "__attribute__" ∷ codes "__extension__" ∷ codes "__restrict" ∷
    codes "__inline" ∷ []

unfoldable pub is_unsupported_word : List ℕ → Bool
is_unsupported_word text = list_any (bytes_eq text) unsupported_words

abbrev pub is_builtin : List ℕ → Bool
is_builtin text = starts_with nat_eq text (codes "__builtin_")

-- a word that the code UnsupportedWord refuses
abbrev pub is_unsupported : List ℕ → Bool
is_unsupported text = is_unsupported_word text || is_builtin text
