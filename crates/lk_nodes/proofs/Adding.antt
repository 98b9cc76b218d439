-- What a node adds to the environment, told with the parts of the node: each part stands in an environment with the names from outside that the node is given; what is known of a
-- struct before the node is known there, and what is known behind the part is known behind the node.
use Rattle.std.proofs.Common.{◌≡◌, List, [], ◌∷◌, ◌++◌, length, sym, subst}
use Rattle.std.specs.Prelude.{⊤}
use Rattle.lk_typed.specs.Declarations.{declaration_adds}
use Rattle.lk_typed.specs.Env.{Env, Additions, Members, Outside, both, extend, nothing, past_scope}
use Rattle.lk_typed.specs.Expressions.{declarator_found, expression, item_found, member_found, parameter_found, type_found}
use Rattle.lk_typed.specs.Initialisers.{init_adds}
use Rattle.lk_typed.specs.NodeParts.{external_adds, parts}
use Rattle.lk_typed.specs.Nodes.{Node, AnExternal, ADeclaration, ADefinition, AMember, AnItem, AParameter, ATypeName, ADeclarator, AnInitialiser, AStatement, AnExpression, Placed, at}
use Rattle.lk_typed.specs.Statements.{stmt_adds}
use Rattle.lk_tree.specs.declared.statement.Decl.TheVariants as decl
use Rattle.lk_nodes.proofs.Structs.{AreWhole, KeepsStructs, KnownStay, NamesHaveElements, TagsWithin, after_both, both_kept, known_behind, names_both, names_further, nothing_kept, past_kept, stays_same, stays_then, structs_behind, tags_both, tags_further}

-- what a node adds to the environment in which it stands
abbrev pub adds_of : Env → Node → Additions
adds_of env (AnExternal d) = external_adds env d
adds_of env (ADeclaration scope node) = declaration_adds scope env node
adds_of env (ADefinition node) = external_adds env (decl.Function node)
adds_of env (AMember before m) = (member_found m env before).additions
adds_of env (AnItem before i) = (item_found i env before).additions
adds_of env (AParameter lone p) = (parameter_found p env).additions
adds_of env (ATypeName n) = (type_found n env).additions
adds_of env (ADeclarator left d) = (declarator_found d).additions env
adds_of env (AnInitialiser object init) = init_adds init env
adds_of env (AStatement around s) = stmt_adds s env
adds_of env (AnExpression e) = (expression e env).adds

-- the structs behind a node
abbrev pub behind_node : Env → Node → List Members
behind_node env node = structs_behind env.structs (adds_of env node)

module _ (outside : Outside) where
  -- an environment with these names from outside, whose tags mean structs that there are, whose structs have complete members, and whose typedefs have complete elements
  abbrev pub Sound : Env → Type 0
  Sound env = (env.outside ≡ outside) × TagsWithin env.tags (length env.structs) × AreWhole env.structs × NamesHaveElements env.structs env.declared

  -- so is the one behind additions
  pub extended : (env : Env) {a : Additions} → Sound env → KeepsStructs env.structs a → Sound (extend env a)
  extended env {a} sound kept = (
    sound.0,
    tags_both env.tags a.tags _ (tags_further env.tags (length env.structs) _ kept.longer sound.1) kept.tags,
    kept.whole sound.2,
    names_both _ env.declared a.declared (names_further env.structs _ (known_behind kept) env.declared sound.3) kept.names,
  )

  -- a node stands in such an environment; what is known of these structs is known there, and what is known behind it stays known up to others
  pub record Fits (before after : List Members) (p : Placed) : Type 0 where
    pub sound : Sound p.env
    pub earlier : KnownStay before p.env.structs
    pub stays : KnownStay (behind_node p.env p.node) after

  abbrev pub AllFit : List Members → List Members → List Placed → Type 0
  AllFit before after [] = ⊤
  AllFit before after (p ∷ ps) = Fits before after p × AllFit before after ps

  -- what stays known up to these structs stays known up to others
  pub fit_further : (ps : List Placed) (before xs ys : List Members) → KnownStay xs ys → AllFit before xs ps → AllFit before ys ps
  fit_further [] before xs ys further all = tt
  fit_further (p ∷ ps) before xs ys further all =
      (record { sound = all.0.sound; earlier = all.0.earlier; stays = stays_then _ xs ys all.0.stays further }, fit_further ps before xs ys further all.1)

  -- what is known of earlier structs is known there
  pub fit_earlier : (ps : List Placed) (xs ys after : List Members) → KnownStay xs ys → AllFit ys after ps → AllFit xs after ps
  fit_earlier [] xs ys after earlier all = tt
  fit_earlier (p ∷ ps) xs ys after earlier all =
      (record { sound = all.0.sound; earlier = stays_then xs ys _ earlier all.0.earlier; stays = all.0.stays }, fit_earlier ps xs ys after earlier all.1)

  fit_both : (ps qs : List Placed) (before xs : List Members) → AllFit before xs ps → AllFit before xs qs → AllFit before xs (ps ++ qs)
  fit_both [] qs before xs first others = others
  fit_both (p ∷ ps) qs before xs first others = (first.0, fit_both ps qs before xs first.1 others)

  -- additions keep structs, and so do these nodes, which make them
  pub record Tells (structs : List Members) (a : Additions) (ps : List Placed) : Type 0 where
    pub kept : KeepsStructs structs a
    pub parts : AllFit structs (structs_behind structs a) ps

  -- no node
  pub none : (structs : List Members) → Tells structs nothing []
  none structs = record { kept = nothing_kept structs; parts = tt }

  -- one node
  pub one : (env : Env) (node : Node) → Sound env → KeepsStructs env.structs (adds_of env node) → Tells env.structs (adds_of env node) (at env node ∷ [])
  one env node sound kept = record { kept = kept; parts = (record { sound = sound; earlier = stays_same _; stays = stays_same _ }, tt) }

  -- nodes, then others
  pub turn : {structs : List Members} {a b : Additions} {ps qs : List Placed} → Tells structs a ps → Tells (structs_behind structs a) b qs → Tells structs (both a b) (ps ++ qs)
  turn {structs} {a} {b} {ps} {qs} first second =
      record {
        kept = both_kept first.kept second.kept;
        parts = subst (λ (xs : List Members). AllFit structs xs (ps ++ qs)) (sym (after_both structs a.structs b.structs))
            (fit_both ps qs structs _ (fit_further ps structs _ _ (known_behind second.kept) first.parts) (fit_earlier qs structs _ _ (known_behind first.kept) second.parts));
      }

  -- a node, then others
  pub next : {structs : List Members} {a b : Additions} {p : Placed} {qs : List Placed} → Tells structs a (p ∷ []) → Tells (structs_behind structs a) b qs → Tells structs (both a b) (p ∷ qs)
  next {p = p} {qs = qs} first second = turn {ps = p ∷ []} {qs = qs} first second

  -- nodes, then what no node of theirs adds
  pub more : {structs : List Members} {a b : Additions} {ps : List Placed} → Tells structs a ps → KeepsStructs (structs_behind structs a) b → Tells structs (both a b) ps
  more {structs} {a} {b} {ps} first second =
      record {
        kept = both_kept first.kept second;
        parts = subst (λ (xs : List Members). AllFit structs xs ps) (sym (after_both structs a.structs b.structs)) (fit_further ps structs _ _ (known_behind second) first.parts);
      }

  -- where the scope of nodes ends
  pub past : {structs : List Members} {a : Additions} {ps : List Placed} → Tells structs a ps → Tells structs (past_scope a) ps
  past told = record { kept = past_kept told.kept; parts = told.parts }

  -- of a node: its additions, with its parts
  abbrev pub NodeTells : Env → Env → Node → Type 0
  NodeTells at_end env node = Sound env → Tells env.structs (adds_of env node) (parts at_end env node)

  -- a node as a part
  pub part : (at_end env : Env) (node : Node) → Sound env → NodeTells at_end env node → Tells env.structs (adds_of env node) (at env node ∷ [])
  part at_end env node sound tells = one env node sound (tells sound).kept
