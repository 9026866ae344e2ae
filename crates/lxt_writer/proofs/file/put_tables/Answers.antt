use Rattle.lxt_writer.proofs.FileLaws.{tables_put}
use Rattle.lxt_writer.proofs.file.put_tables.Goals as goal

pub returns : goal.returns
returns c =
    let a = c.args in
    tables_put _ _ _ _ _ c.requires a.memory a.entries a.first a.newest _
    _ _ _ _ c.put_names_head.ensures c.put_all.ensures c.put_all-2.ensures c.put_sync.ensures
    c.put_times_head.ensures
