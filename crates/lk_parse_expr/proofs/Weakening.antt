-- An expression that binds more tightly is one that binds less tightly.
use Rattle.std.proofs.Common.{ℕ, ◌≤◌, arith}
use Rattle.lk_tree.specs.declared.expression.Expr.{Expr}
use Rattle.lk_parse_expr.specs.Input.{Input}
use Rattle.lk_parse_expr.specs.Grammar as g
use Rattle.lk_parse_expr.specs.Grammar.{ReadsExpr}

pub looser : {level h : ℕ} {tree : Expr} {from rest : Input} (other : ℕ) → ReadsExpr level h tree from rest → other ≤ level → ReadsExpr other h tree from rest
looser other (g.comma l a is b) low = g.comma (omega arith) a is b
looser other (g.assign op l a is b) low = g.assign op (omega arith) a is b
looser other (g.choice l a is b so c) low = g.choice (omega arith) a is b so c
looser other (g.binary op l a is b) low = g.binary op (omega arith) a is b
looser other (g.cast l is begins name so inner) low = g.cast (omega arith) is begins name so inner
looser other (g.pre op l is inner) low = g.pre op (omega arith) is inner
looser other (g.prefix op l is inner) low = g.prefix op (omega arith) is inner
looser other (g.sizeof_expr l is opens inner) low = g.sizeof_expr (omega arith) is opens inner
looser other (g.sizeof_type l is opens name so) low = g.sizeof_type (omega arith) is opens name so
looser other (g.index l a is b so) low = g.index (omega arith) a is b so
looser other (g.call l a is b so) low = g.call (omega arith) a is b so
looser other (g.member l a is so) low = g.member (omega arith) a is so
looser other (g.arrow l a is so) low = g.arrow (omega arith) a is so
looser other (g.post op l a is) low = g.post op (omega arith) a is
looser other (g.word l is) low = g.word (omega arith) is
looser other (g.number l is) low = g.number (omega arith) is
looser other (g.char l is) low = g.char (omega arith) is
looser other (g.texts l is) low = g.texts (omega arith) is
looser other (g.paren l is shut inner so) low = g.paren (omega arith) is shut inner so
