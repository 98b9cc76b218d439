-- The typed tree of statements (C99 6.8). `statement_parts` says in which environment each part stands.
use Rattle.std.specs.Prelude.{ℕ, ℤ, ◌≡◌, ◌++◌, true, false, Option, Some, None, List, [], ◌∷◌}
use Rattle.std.specs.List.{Contains}
use Rattle.lk_tree.specs.declared.declaration.Declare.{Declare}
use Rattle.lk_tree.specs.declared.expression.Expr.{Expr}
use Rattle.lk_tree.specs.declared.statement.BlockItem.{BlockItem}
use Rattle.lk_tree.specs.declared.statement.BlockItem.TheOpen.{StmtForm-F}
use Rattle.lk_tree.specs.declared.statement.ForFirst.{ForFirst}
use Rattle.lk_tree.specs.declared.statement.ForFirst.TheVariants as first
use Rattle.lk_tree.specs.declared.statement.Stmt.{Stmt}
use Rattle.lk_tree.specs.declared.statement.StmtForm.{out-StmtForm}
use Rattle.lk_typed.specs.DeclarationRules.{InBlock}
use Rattle.lk_typed.specs.Elaborated.{IsConverted, IsValue, typing_at}
use Rattle.lk_typed.specs.Env.{Env, Name}
use Rattle.lk_typed.specs.Labels.{Label, is_name}
use Rattle.lk_typed.specs.LocalInits.{IsBlockDeclaration}
use Rattle.lk_typed.specs.Addresses.{value}
use Rattle.lk_typed.specs.Nodes.{Placed, ADeclaration, AStatement, AnExpression, at}
use Rattle.lk_typed.specs.Operands.{promoted_type}
use Rattle.lk_typed.specs.Parts.{statement_parts}
use Rattle.lk_base.specs.declared.kind.Kind.{Kind}
use Rattle.lk_typed.specs.StatementRules.{Around, case_value}
use Rattle.lk_typed.specs.Statements.{Case, StmtTold, statement as statement_found, switch_kind}
use Rattle.lk_typed.specs.Tables.{Tables}
use Rattle.lk_typed.specs.Ty.{Ty}
use Rattle.lk_typed.specs.Typing.{Typing}
use Rattle.lk_typed.specs.declared.expression.TypedExpr.{TypedExpr}
use Rattle.lk_typed.specs.declared.statement.LocalInit.{LocalInit}
use Rattle.lk_typed.specs.declared.statement.SwitchCase.{SwitchCase}
use Rattle.lk_typed.specs.declared.statement.TypedFirst.{TypedFirst}
use Rattle.lk_typed.specs.declared.statement.TypedFirst.TheVariants as typed_first
use Rattle.lk_typed.specs.declared.statement.TypedItem.{TypedItem, out-TypedItem}
use Rattle.lk_typed.specs.declared.statement.TypedItem.TheOpen.{TypedItem-F, TypedStmtForm-F}
use Rattle.lk_typed.specs.declared.statement.TypedStmt.{TypedStmt}
use Rattle.lk_typed.specs.declared.statement.TypedStmtForm.{TypedStmtForm, out-TypedStmtForm}

-- the parts of a statement, in the order of the text
abbrev pub parts_in : Env → Around → Stmt → List Placed
parts_in env around s = statement_parts around env (out-StmtForm s.form)

-- a node at the place and with the number of a statement, of this form
pub record MakesStmt (s : Stmt) (form : TypedStmtForm-F TypedItem TypedStmtForm TypedStmt)
    (t : TypedStmt) : Type 0 where
  pub spot : t.spot ≡ s.spot
  pub ordinal : t.ordinal ≡ s.ordinal
  pub made : out-TypedStmtForm t.form ≡ form

-- ---- a switch (C99 6.8.4.2, 5): the values of its cases have the promoted type of its value, which is of this kind

pub data AreCases (kind : Option Kind) : List Case → List SwitchCase → Type 0 where
  no_more : AreCases kind [] []
  next : {found : Case} {others : List Case} {z : ℤ} {is : SwitchCase} {rest : List SwitchCase} →
      case_value kind found.value ≡ Some z → is.value ≡ z → is.ordinal ≡ found.ordinal →
      AreCases kind others rest → AreCases kind (found ∷ others) (is ∷ rest)

-- it has one default at most (C99 6.8.4.2, 3)
pub data IsDefault : List ℕ → Option ℕ → Type 0 where
  none : IsDefault [] None
  one : {n : ℕ} → IsDefault (n ∷ []) (Some n)

module _ (tables : Tables) where
  -- ---- expressions that may be missing

  pub data IsPerhaps : Option Expr → List Placed → Option TypedExpr → Type 0 where
    missing : IsPerhaps None [] None
    there : {env : Env} {e : Expr} {t : TypedExpr} → IsValue tables false (env, e) t →
        IsPerhaps (Some e) (at env (AnExpression e) ∷ []) (Some t)

  pub data IsFirst : ForFirst → List Placed → TypedFirst → Type 0 where
    expression : {e : Option Expr} {parts : List Placed} {t : Option TypedExpr} → IsPerhaps e parts t →
        IsFirst (first.Expr e) parts (typed_first.Expr t)
    declaration : {env : Env} {node : Declare} {inits : List LocalInit} →
        IsBlockDeclaration tables env node inits →
        IsFirst (first.Declare node) (at env (ADeclaration InBlock node) ∷ []) (typed_first.Declare inits)

  mutual
    pub data IsStmt : Env → Around → Stmt → TypedStmt → Type 0 where
      -- labels (C99 6.8.1)
      label : {env env' : Env} {around inside : Around} {s inner : Stmt} {name : Name} {a t : TypedStmt} →
          out-StmtForm s.form ≡ StmtForm-F.Label name inner →
          parts_in env around s ≡ at env' (AStatement inside inner) ∷ [] → IsStmt env' inside inner a →
          MakesStmt s (TypedStmtForm-F.Label a) t → IsStmt env around s t
      case : {env env' behind : Env} {around inside : Around} {s inner : Stmt} {e : Expr} {a t : TypedStmt} →
          out-StmtForm s.form ≡ StmtForm-F.Case e inner →
          parts_in env around s ≡ at env' (AnExpression e) ∷ at behind (AStatement inside inner) ∷ [] →
          IsStmt behind inside inner a → MakesStmt s (TypedStmtForm-F.Case a) t → IsStmt env around s t
      default : {env env' : Env} {around inside : Around} {s inner : Stmt} {a t : TypedStmt} →
          out-StmtForm s.form ≡ StmtForm-F.Default inner →
          parts_in env around s ≡ at env' (AStatement inside inner) ∷ [] → IsStmt env' inside inner a →
          MakesStmt s (TypedStmtForm-F.Default a) t → IsStmt env around s t
      -- blocks and expressions (C99 6.8.2, 6.8.3)
      block : {env : Env} {around : Around} {s : Stmt} {items : List BlockItem} {are : List TypedItem}
          {t : TypedStmt} → out-StmtForm s.form ≡ StmtForm-F.Block items →
          AreItems (parts_in env around s) are → MakesStmt s (TypedStmtForm-F.Block are) t →
          IsStmt env around s t
      do_ : {env : Env} {around : Around} {s : Stmt} {e : Option Expr} {a : Option TypedExpr}
          {t : TypedStmt} → out-StmtForm s.form ≡ StmtForm-F.Do e → IsPerhaps e (parts_in env around s) a →
          MakesStmt s (TypedStmtForm-F.Do a) t → IsStmt env around s t
      -- choices (C99 6.8.4): a condition keeps its type, the value of a switch is promoted
      if_ : {env env' behind : Env} {around inside : Around} {s inner : Stmt} {e : Expr} {other : Option Stmt}
          {rest : List Placed} {c : TypedExpr} {a t : TypedStmt} {b : Option TypedStmt} →
          out-StmtForm s.form ≡ StmtForm-F.If e inner other →
          parts_in env around s ≡ at env' (AnExpression e) ∷ at behind (AStatement inside inner) ∷ rest →
          IsValue tables false (env', e) c → IsStmt behind inside inner a → IsElse other rest b →
          MakesStmt s (TypedStmtForm-F.If c a b) t → IsStmt env around s t
      switch : {env env' behind : Env} {around inside : Around} {s inner : Stmt} {e : Expr} {typing : Typing}
          {found : StmtTold} {cases : List SwitchCase} {default : Option ℕ} {v : TypedExpr}
          {a t : TypedStmt} → out-StmtForm s.form ≡ StmtForm-F.Switch e inner →
          parts_in env around s ≡ at env' (AnExpression e) ∷ at behind (AStatement inside inner) ∷ [] →
          typing_at (env', e) ≡ Some typing →
          IsConverted tables false (env', e) (promoted_type (value typing).type) v →
          statement_found inner behind ≡ found → AreCases (switch_kind e env') found.cases cases →
          IsDefault found.defaults default → IsStmt behind inside inner a →
          MakesStmt s (TypedStmtForm-F.Switch v cases default a) t → IsStmt env around s t
      -- loops (C99 6.8.5)
      while : {env env' behind : Env} {around inside : Around} {s inner : Stmt} {e : Expr} {c : TypedExpr}
          {a t : TypedStmt} → out-StmtForm s.form ≡ StmtForm-F.While e inner →
          parts_in env around s ≡ at env' (AnExpression e) ∷ at behind (AStatement inside inner) ∷ [] →
          IsValue tables false (env', e) c → IsStmt behind inside inner a →
          MakesStmt s (TypedStmtForm-F.While c a) t → IsStmt env around s t
      until : {env env' behind : Env} {around inside : Around} {s inner : Stmt} {e : Expr} {c : TypedExpr}
          {a t : TypedStmt} → out-StmtForm s.form ≡ StmtForm-F.Until inner e →
          parts_in env around s ≡ at env' (AStatement inside inner) ∷ at behind (AnExpression e) ∷ [] →
          IsStmt env' inside inner a → IsValue tables false (behind, e) c →
          MakesStmt s (TypedStmtForm-F.Until a c) t → IsStmt env around s t
      for_ : {env env' : Env} {around inside : Around} {s inner : Stmt} {start : ForFirst}
          {condition step : Option Expr} (firsts conditions steps : List Placed)
          {f : TypedFirst} {c d : Option TypedExpr} {a t : TypedStmt} →
          out-StmtForm s.form ≡ StmtForm-F.For start condition step inner →
          parts_in env around s ≡ firsts ++ conditions ++ steps ++ at env' (AStatement inside inner) ∷ [] →
          IsFirst start firsts f → IsPerhaps condition conditions c → IsPerhaps step steps d →
          IsStmt env' inside inner a → MakesStmt s (TypedStmtForm-F.For f c d a) t → IsStmt env around s t
      -- jumps (C99 6.8.6): a goto by the number of its label
      goto : {env : Env} {around : Around} {s : Stmt} {name : Name} {label : Label} {t : TypedStmt} →
          out-StmtForm s.form ≡ StmtForm-F.Goto name → Contains around.labels label →
          is_name label.name name ≡ true → MakesStmt s (TypedStmtForm-F.Goto label.ordinal) t →
          IsStmt env around s t
      continue : {env : Env} {around : Around} {s : Stmt} {t : TypedStmt} →
          out-StmtForm s.form ≡ StmtForm-F.Continue → MakesStmt s TypedStmtForm-F.Continue t →
          IsStmt env around s t
      break : {env : Env} {around : Around} {s : Stmt} {t : TypedStmt} →
          out-StmtForm s.form ≡ StmtForm-F.Break → MakesStmt s TypedStmtForm-F.Break t → IsStmt env around s t
      return_nothing : {env : Env} {around : Around} {s : Stmt} {t : TypedStmt} →
          out-StmtForm s.form ≡ StmtForm-F.Return None → MakesStmt s (TypedStmtForm-F.Return None) t →
          IsStmt env around s t
      -- the value is converted to the result of the function (C99 6.8.6.4, 3)
      return : {env env' : Env} {around : Around} {s : Stmt} {e : Expr} {result : Ty} {a : TypedExpr}
          {t : TypedStmt} → out-StmtForm s.form ≡ StmtForm-F.Return (Some e) →
          parts_in env around s ≡ at env' (AnExpression e) ∷ [] → env.result ≡ Some result →
          IsConverted tables false (env', e) result a → MakesStmt s (TypedStmtForm-F.Return (Some a)) t →
          IsStmt env around s t

    pub data IsElse : Option Stmt → List Placed → Option TypedStmt → Type 0 where
      missing : IsElse None [] None
      there : {env : Env} {around : Around} {s : Stmt} {t : TypedStmt} → IsStmt env around s t →
          IsElse (Some s) (at env (AStatement around s) ∷ []) (Some t)

    -- the items of a block, each in its environment
    pub data AreItems : List Placed → List TypedItem → Type 0 where
      no_more : AreItems [] []
      declaration : {env : Env} {node : Declare} {inits : List LocalInit} {others : List Placed}
          {item : TypedItem} {items : List TypedItem} → IsBlockDeclaration tables env node inits →
          out-TypedItem item ≡ TypedItem-F.Declare inits → AreItems others items →
          AreItems (at env (ADeclaration InBlock node) ∷ others) (item ∷ items)
      statement : {env : Env} {around : Around} {s : Stmt} {t : TypedStmt} {others : List Placed}
          {item : TypedItem} {items : List TypedItem} → IsStmt env around s t →
          out-TypedItem item ≡ TypedItem-F.Stmt t → AreItems others items →
          AreItems (at env (AStatement around s) ∷ others) (item ∷ items)
