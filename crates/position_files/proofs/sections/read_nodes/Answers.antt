use Rattle.std.proofs.Common.{rules}
use Rattle.position_files.proofs.SectionLaws.{one_list}
use Rattle.position_files.proofs.sections.read_nodes.Goals as goal

pub returns-clause-only : goal.returns-clause-only
returns-clause-only c = λ other rest is.
    one_list c.args.width c.args.height c.requires.wide c.requires.high c.args.count c.in_ok-table.table other c.in_ok-table.rest.now rest
    c.args.bytes.now (record {
      nodes = record { table = search rules; fit = c.in_ok-table.ensures.nodes; counted = c.in_ok-table.ensures.count };
      text = c.in_ok-table.ensures.text;
    }) is
