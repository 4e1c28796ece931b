use Rattle.cover_links.proofs.block.BlockRow.write.Goals as goal

pub write_at-requires-clause-within : goal.write_at-requires-clause-within
write_at-requires-clause-within c = (c.args.offset, c.bytes.ensures, c.requires.within)

pub returns-clause-entries : goal.returns-clause-entries
returns-clause-entries c = c.write_at.ensures.entries c.args.offset c.bytes.ensures
