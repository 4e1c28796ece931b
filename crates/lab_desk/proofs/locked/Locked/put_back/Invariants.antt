use Rattle.std.proofs.Common.{drop, length}
use Rattle.lab_desk.proofs.locked.Locked.put_back.Given as goal

abbrev pub ghosts-follow : goal.ghosts-follow
ghosts-follow g a = record { next = drop (length g.L.Desking.opening) a.book.now.history }
