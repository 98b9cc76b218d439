-- What a token begins, where a statement or an external declaration is read.
use Rattle.std.specs.Prelude.{Bool, true}
use Rattle.lk_lex.specs.declared.token.TokenKind.{TokenKind}
use Rattle.lk_lex.specs.declared.token.TokenKind.TheVariants as k
use Rattle.lk_lex.specs.declared.punct.Punct.TheVariants as p
use Rattle.lk_lex.specs.declared.keyword.Keyword.TheVariants as w
use Rattle.lk_parse_expr.specs.Front.{start_of, is_start}
use Rattle.lk_parse_unit.specs.declared.lead.Lead.{Lead}
use Rattle.lk_parse_unit.specs.declared.lead.Lead.TheVariants as lead

abbrev pub lead_of : TokenKind → Lead
lead_of k.Word = lead.Word
lead_of (k.Key w.Case) = lead.Case
lead_of (k.Key w.Default) = lead.Default
lead_of (k.Key w.If) = lead.If
lead_of (k.Key w.Switch) = lead.Switch
lead_of (k.Key w.While) = lead.While
lead_of (k.Key w.Do) = lead.Do
lead_of (k.Key w.For) = lead.For
lead_of (k.Key w.Goto) = lead.Goto
lead_of (k.Key w.Continue) = lead.Continue
lead_of (k.Key w.Break) = lead.Break
lead_of (k.Key w.Return) = lead.Return
lead_of (k.Punct p.OpenBrace) = lead.Block
lead_of _ = lead.Other

-- whether a statement begins
abbrev pub begins_stmt : TokenKind → Bool
begins_stmt (k.Key w.Case) = true
begins_stmt (k.Key w.Default) = true
begins_stmt (k.Key w.If) = true
begins_stmt (k.Key w.Switch) = true
begins_stmt (k.Key w.While) = true
begins_stmt (k.Key w.Do) = true
begins_stmt (k.Key w.For) = true
begins_stmt (k.Key w.Goto) = true
begins_stmt (k.Key w.Continue) = true
begins_stmt (k.Key w.Break) = true
begins_stmt (k.Key w.Return) = true
begins_stmt (k.Punct p.OpenBrace) = true
begins_stmt (k.Punct p.Semicolon) = true
begins_stmt kind = is_start (start_of kind)
