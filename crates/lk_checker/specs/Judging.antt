-- Expressions of one part, two and three are settled by what was found of these.
use Rattle.lk_tree.specs.declared.expression.Expr.{Expr}
use Rattle.lk_typed.specs.Env.{Env}
use Rattle.lk_typed.specs.Typing.{Judged}
use Rattle.lk_found.specs.Findings.{IsFound, JudgedForm}
use Rattle.lk_found.specs.declared.found.Found.{Found}
use Rattle.lk_found.specs.Judging.{TellsNoName}
use Rattle.lk_checker.specs.States.{IsIn, Settles}
use Rattle.lk_checker.specs.declared.checker.Checker.{Checker}

-- ---- expressions of one part, two and three, by what was found of these

abbrev pub SettlesOne : Checker → Checker → Expr → Found → Found → (Judged → JudgedForm) → Type 0
SettlesOne old new e a found form =
    (env behind : Env) (x : Judged) → IsIn old behind → TellsNoName e → IsFound old.types env a x →
    Settles old new e env behind (form x) found

abbrev pub SettlesTwo : Checker → Checker → Expr → Found → Found → Found →
    (Judged → Judged → JudgedForm) → Type 0
SettlesTwo old new e a b found form =
    (env behind : Env) (x y : Judged) → IsIn old behind → TellsNoName e → IsFound old.types env a x →
    IsFound old.types env b y → Settles old new e env behind (form x y) found

abbrev pub SettlesThree : Checker → Checker → Expr → Found → Found → Found → Found →
    (Judged → Judged → Judged → JudgedForm) → Type 0
SettlesThree old new e c a b found form =
    (env behind : Env) (z x y : Judged) → IsIn old behind → TellsNoName e → IsFound old.types env c z →
    IsFound old.types env a x → IsFound old.types env b y →
    Settles old new e env behind (form z x y) found
