-- The counter counts in the ledger that was made for it.
use Rattle.lot_rows.proofs.in_memory.draw.Given as goal

abbrev pub ghosts-run_counting : goal.ghosts-run_counting
ghosts-run_counting a = record { name = a.blank.name; parts = a.blank.parts }
