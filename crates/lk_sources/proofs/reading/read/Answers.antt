use Rattle.lk_words.specs.Seen.{seen}
use Rattle.lk_sources.proofs.Both.{told_unread}
use Rattle.lk_sources.proofs.Many.{read_few}
use Rattle.lk_sources.proofs.Numbered.{sources_named}
use Rattle.lk_sources.proofs.reading.read.Goals as goal

pub returns-in-Ok-clause-ok : goal.returns-in-Ok-clause-ok
returns-in-Ok-clause-ok g c =
    let both = c.in-Ok.ensures.ok in
    record {
      calm = both.calm;
      files = c.in_ok-files.ensures;
      externs_names = both.externs_names;
      others_names = both.others_names;
      short_others = both.short_others;
      names = both.names;
      few = read_few (seen c.args.command.now) c.in-Ok.field-0.sources c.requires both.names;
      readable = record {
        short_externs = both.short_externs;
        short = both.short;
        named = sources_named (seen c.args.command.now) c.in_ok-files.files c.in-Ok.field-0.sources c.in_ok-files.ensures both.names;
      };
      read = both.read;
    }

pub returns-in-Err-clause-err : goal.returns-in-Err-clause-err
returns-in-Err-clause-err g c =
    told_unread (seen c.args.command.now) _ c.in_ok-files.files c.in-Err.fault c.unread.result c.in_ok-files.ensures c.in-Err.ensures.err c.unread.ensures
