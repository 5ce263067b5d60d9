use Rattle.mon_store.proofs.ListedFiles.{told-listed}
use Rattle.mon_store.proofs.mem_store.MemStore.new.Goals as goal

pub returns-clause-told : goal.returns-clause-told
returns-clause-told c = λ name bytes listed. told-listed c.args.files name bytes c.requires listed
