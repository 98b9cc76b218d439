-- The table of the codes: the number and the word of each.
use Rattle.std.specs.Prelude.{ℕ, List, ◌≡◌, codes}
use Rattle.lk_base.specs.declared.code.Code.{Code}
use Rattle.lk_base.specs.declared.code.Code.TheVariants.{Byte, Token, UnsupportedWord, Syntax, TooDeep, TooLong, BadExterns, BadSchedule, BadCertificate, Undeclared, Redeclared, Mismatch, NotAPlace, NotConstant, Incomplete, BadLabel, BadInitialiser, BitField, VariableArray, LargeType, IntPointerCast, PointerCast, TryLock, LongJmp, Atomic, OwnVararg, StructValue, SizeofStruct, UnknownExternal, Attribute, MutexValue, StartRoutine, AllocShape, CallsMain, JoinResult, NoMain, DefinedTwice, TypesDiffer, NotDefined, TooManyPoints, TooManyLabels, CertificateTooLarge, CertificateFails}

pub record Entry : Type 0 where
  pub number : ℕ
  pub word : List ℕ

abbrev entry : ℕ → List ℕ → Entry
entry n w = record { number = n; word = w }

abbrev pub entry_of : Code → Entry
entry_of Byte = entry 10 (codes "Byte")
entry_of Token = entry 11 (codes "Token")
entry_of UnsupportedWord = entry 12 (codes "UnsupportedWord")
entry_of Syntax = entry 13 (codes "Syntax")
entry_of TooDeep = entry 14 (codes "TooDeep")
entry_of TooLong = entry 15 (codes "TooLong")
entry_of BadExterns = entry 16 (codes "BadExterns")
entry_of BadSchedule = entry 17 (codes "BadSchedule")
entry_of BadCertificate = entry 18 (codes "BadCertificate")
entry_of Undeclared = entry 20 (codes "Undeclared")
entry_of Redeclared = entry 21 (codes "Redeclared")
entry_of Mismatch = entry 22 (codes "Mismatch")
entry_of NotAPlace = entry 23 (codes "NotAPlace")
entry_of NotConstant = entry 24 (codes "NotConstant")
entry_of Incomplete = entry 25 (codes "Incomplete")
entry_of BadLabel = entry 26 (codes "BadLabel")
entry_of BadInitialiser = entry 27 (codes "BadInitialiser")
entry_of BitField = entry 30 (codes "BitField")
entry_of VariableArray = entry 31 (codes "VariableArray")
entry_of LargeType = entry 32 (codes "LargeType")
entry_of IntPointerCast = entry 34 (codes "IntPointerCast")
entry_of PointerCast = entry 35 (codes "PointerCast")
entry_of TryLock = entry 36 (codes "TryLock")
entry_of LongJmp = entry 37 (codes "LongJmp")
entry_of Atomic = entry 38 (codes "Atomic")
entry_of OwnVararg = entry 40 (codes "OwnVararg")
entry_of StructValue = entry 41 (codes "StructValue")
entry_of SizeofStruct = entry 42 (codes "SizeofStruct")
entry_of UnknownExternal = entry 43 (codes "UnknownExternal")
entry_of Attribute = entry 44 (codes "Attribute")
entry_of MutexValue = entry 45 (codes "MutexValue")
entry_of StartRoutine = entry 46 (codes "StartRoutine")
entry_of AllocShape = entry 47 (codes "AllocShape")
entry_of CallsMain = entry 48 (codes "CallsMain")
entry_of JoinResult = entry 50 (codes "JoinResult")
entry_of NoMain = entry 60 (codes "NoMain")
entry_of DefinedTwice = entry 61 (codes "DefinedTwice")
entry_of TypesDiffer = entry 62 (codes "TypesDiffer")
entry_of NotDefined = entry 63 (codes "NotDefined")
entry_of TooManyPoints = entry 64 (codes "TooManyPoints")
entry_of TooManyLabels = entry 70 (codes "TooManyLabels")
entry_of CertificateTooLarge = entry 71 (codes "CertificateTooLarge")
entry_of CertificateFails = entry 72 (codes "CertificateFails")

abbrev pub number_of : Code → ℕ
number_of c = (entry_of c).number

abbrev pub word_of : Code → List ℕ
word_of c = (entry_of c).word

-- no two codes share a number
abbrev pub IsNumberOfOne : Type 0
IsNumberOfOne = (a b : Code) → number_of a ≡ number_of b → a ≡ b
