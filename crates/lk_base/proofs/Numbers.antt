-- A number of the table leads back to its code.
use Rattle.std.proofs.Common.{ℕ, ◌≡◌, ◌∙◌, sym, ap, refl, if◌then◌else◌, nat_eq}
use Rattle.lk_base.specs.declared.code.Code.{Code}
use Rattle.lk_base.specs.declared.code.Code.TheVariants.{Byte, Token, UnsupportedWord, Syntax, TooDeep, TooLong, BadExterns, BadSchedule, BadCertificate, Undeclared, Redeclared, Mismatch, NotAPlace, NotConstant, Incomplete, BadLabel, BadInitialiser, BitField, VariableArray, LargeType, IntPointerCast, PointerCast, TryLock, LongJmp, Atomic, OwnVararg, StructValue, SizeofStruct, UnknownExternal, Attribute, MutexValue, StartRoutine, AllocShape, CallsMain, JoinResult, NoMain, DefinedTwice, TypesDiffer, NotDefined, TooManyPoints, TooManyLabels, CertificateTooLarge, CertificateFails}
use Rattle.lk_base.specs.Code.{number_of, IsNumberOfOne}

abbrev code_at : ℕ → Code
code_at n =
    if nat_eq n 10 then Byte else (
    if nat_eq n 11 then Token else (
    if nat_eq n 12 then UnsupportedWord else (
    if nat_eq n 13 then Syntax else (
    if nat_eq n 14 then TooDeep else (
    if nat_eq n 15 then TooLong else (
    if nat_eq n 16 then BadExterns else (
    if nat_eq n 17 then BadSchedule else (
    if nat_eq n 18 then BadCertificate else (
    if nat_eq n 20 then Undeclared else (
    if nat_eq n 21 then Redeclared else (
    if nat_eq n 22 then Mismatch else (
    if nat_eq n 23 then NotAPlace else (
    if nat_eq n 24 then NotConstant else (
    if nat_eq n 25 then Incomplete else (
    if nat_eq n 26 then BadLabel else (
    if nat_eq n 27 then BadInitialiser else (
    if nat_eq n 30 then BitField else (
    if nat_eq n 31 then VariableArray else (
    if nat_eq n 32 then LargeType else (
    if nat_eq n 34 then IntPointerCast else (
    if nat_eq n 35 then PointerCast else (
    if nat_eq n 36 then TryLock else (
    if nat_eq n 37 then LongJmp else (
    if nat_eq n 38 then Atomic else (
    if nat_eq n 40 then OwnVararg else (
    if nat_eq n 41 then StructValue else (
    if nat_eq n 42 then SizeofStruct else (
    if nat_eq n 43 then UnknownExternal else (
    if nat_eq n 44 then Attribute else (
    if nat_eq n 45 then MutexValue else (
    if nat_eq n 46 then StartRoutine else (
    if nat_eq n 47 then AllocShape else (
    if nat_eq n 48 then CallsMain else (
    if nat_eq n 50 then JoinResult else (
    if nat_eq n 60 then NoMain else (
    if nat_eq n 61 then DefinedTwice else (
    if nat_eq n 62 then TypesDiffer else (
    if nat_eq n 63 then NotDefined else (
    if nat_eq n 64 then TooManyPoints else (
    if nat_eq n 70 then TooManyLabels else (
    if nat_eq n 71 then CertificateTooLarge else (
    CertificateFails))))))))))))))))))))))))))))))))))))))))))

code_at-number_of : (c : Code) → code_at (number_of c) ≡ c
code_at-number_of Byte = refl
code_at-number_of Token = refl
code_at-number_of UnsupportedWord = refl
code_at-number_of Syntax = refl
code_at-number_of TooDeep = refl
code_at-number_of TooLong = refl
code_at-number_of BadExterns = refl
code_at-number_of BadSchedule = refl
code_at-number_of BadCertificate = refl
code_at-number_of Undeclared = refl
code_at-number_of Redeclared = refl
code_at-number_of Mismatch = refl
code_at-number_of NotAPlace = refl
code_at-number_of NotConstant = refl
code_at-number_of Incomplete = refl
code_at-number_of BadLabel = refl
code_at-number_of BadInitialiser = refl
code_at-number_of BitField = refl
code_at-number_of VariableArray = refl
code_at-number_of LargeType = refl
code_at-number_of IntPointerCast = refl
code_at-number_of PointerCast = refl
code_at-number_of TryLock = refl
code_at-number_of LongJmp = refl
code_at-number_of Atomic = refl
code_at-number_of OwnVararg = refl
code_at-number_of StructValue = refl
code_at-number_of SizeofStruct = refl
code_at-number_of UnknownExternal = refl
code_at-number_of Attribute = refl
code_at-number_of MutexValue = refl
code_at-number_of StartRoutine = refl
code_at-number_of AllocShape = refl
code_at-number_of CallsMain = refl
code_at-number_of JoinResult = refl
code_at-number_of NoMain = refl
code_at-number_of DefinedTwice = refl
code_at-number_of TypesDiffer = refl
code_at-number_of NotDefined = refl
code_at-number_of TooManyPoints = refl
code_at-number_of TooManyLabels = refl
code_at-number_of CertificateTooLarge = refl
code_at-number_of CertificateFails = refl

pub one_number : IsNumberOfOne
one_number a b same = sym (code_at-number_of a) ∙ ap code_at same ∙ code_at-number_of b
