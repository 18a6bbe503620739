use Rattle.ringcheck_files.proofs.containers.ContainerDisplay.fmt.Goals as goal

pub returns-in-Folder-clause-writes : goal.returns-in-Folder-clause-writes
returns-in-Folder-clause-writes g c = rw c.in-Folder.is (rw c.slash_after-slash.ensures at c.write.ensures.writes)
