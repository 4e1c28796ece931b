use Rattle.lab_pool_tests.proofs.desks.at_desk.Given as goal

abbrev pub ghosts-at_desk_of-L-Naming : goal.ghosts-at_desk_of-L-Naming
ghosts-at_desk_of-L-Naming g a = record { table = a.blank.name }

abbrev pub ghosts-at_desk_of-L-Desking : goal.ghosts-at_desk_of-L-Desking
ghosts-at_desk_of-L-Desking g a = record { parts = a.blank.parts; opening = a.book.history; whole = a.book.problem; part = a.book.branch; begin = a.book.first }
