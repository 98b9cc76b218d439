use Rattle.std.proofs.Common.{◌≡◌, string_bytes}
use Rattle.std.specs.FinMap.{insert}
use Rattle.std.specs.Option.{option_map}
use Rattle.lk_io.specs.MemShelf.{file_map}
use Rattle.lk_io.proofs.FileMaps.{file_map-insert}
use Rattle.lk_io.proofs.mem_shelf.MemShelf.put.Goals as goal

pub returns-clause-ok : goal.returns-clause-ok
returns-clause-ok c =
    let put = file_map-insert c.self.inside.files c.insert.new.self (string_bytes c.in_ok-name.name) c.in_ok-bytes.bytes c.in_ok-insert.ensures.updates in
    let files : file_map c.insert.new.self.entries ≡ insert (file_map c.self.inside.files.entries) c.args.name.now c.args.bytes.now =
    rw (← c.in_ok-name.ensures.ok, ← c.in_ok-bytes.ensures.items) put in
    rw (← c.self.view_is) (λ i. record {
      files = files i;
      calls = c.self.inside.calls;
      bad = option_map (λ name. name.bytes) c.self.inside.bad;
    })
