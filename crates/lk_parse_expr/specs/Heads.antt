-- What a declarator declares, made from what the one inside it declares.
use Rattle.std.specs.Prelude.{Bool, true, false, not}
use Rattle.lk_parse_expr.specs.declared.naming.Naming.{Naming}
use Rattle.lk_parse_expr.specs.declared.naming.Naming.TheVariants as naming
use Rattle.lk_parse_expr.specs.declared.naming.Head.{Head}
use Rattle.lk_parse_expr.specs.declared.naming.Head.TheVariants as head
use Rattle.lk_parse_expr.specs.Input.{Names, Input, declare}
use Rattle.lk_parse_expr.specs.Words.{opens_parameters}

-- whether a declarator may have a name
abbrev pub may_name : Naming → Bool
may_name naming.Named = true
may_name naming.Abstract = false
may_name naming.Either = true

-- whether a declarator may be without a name
abbrev pub may_omit : Naming → Bool
may_omit naming.Named = false
may_omit naming.Abstract = true
may_omit naming.Either = true

-- whether a `(` before this opens a Group, and no parameters
abbrev pub is_group : Naming → Input → Bool
is_group naming.Named i = true
is_group naming.Abstract i = not (opens_parameters i)
is_group naming.Either i = not (opens_parameters i)

-- behind a `*` or with an array: the part beside the name is a function only where it already was
abbrev pub other : Head → Head
other head.Abstract = head.Abstract
other (head.Bare name) = head.Other name
other (head.Function name parameters) = head.Function name parameters
other (head.Other name) = head.Other name

-- with parameters that declare these names
abbrev pub called : Names → Head → Head
called parameters head.Abstract = head.Abstract
called parameters (head.Bare name) = head.Function name parameters
called parameters (head.Function name first) = head.Function name first
called parameters (head.Other name) = head.Other name

-- the declared name is in scope from here on (C99 6.2.1)
abbrev pub declare_head : Head → Bool → Input → Input
declare_head head.Abstract typedef i = i
declare_head (head.Bare name) typedef i = declare name typedef i
declare_head (head.Function name parameters) typedef i = declare name typedef i
declare_head (head.Other name) typedef i = declare name typedef i
