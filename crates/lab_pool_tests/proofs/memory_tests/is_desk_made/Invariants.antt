use Rattle.lab_pool_tests.proofs.memory_tests.is_desk_made.Given as goal

abbrev pub ghosts-is_made_again-L-Naming : goal.ghosts-is_made_again-L-Naming
ghosts-is_made_again-L-Naming a = record { table = a.blank.name }

abbrev pub ghosts-is_made_again-L-Desking : goal.ghosts-is_made_again-L-Desking
ghosts-is_made_again-L-Desking a = record { parts = a.blank.parts; opening = a.book.history; whole = a.book.problem; part = a.book.branch; begin = a.book.first }
