use Rattle.position_table.proofs.Remembering.{put_entries-kept}
use Rattle.position_table.proofs.whole_table.WholeTable.keep.Goals as goal

pub returns-clause-kept : goal.returns-clause-kept
returns-clause-kept g c =
    rw (
      c.in_ok-put.ensures.entries,
      ← c.self.view_is,
      put_entries-kept c.self.inside.cache (c.args.key, c.args.tag) c.args.value c.len.ensures.valid,
    )
