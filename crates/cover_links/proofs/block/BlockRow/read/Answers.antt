use Rattle.cover_links.proofs.block.BlockRow.read.Goals as goal

pub read_at-requires-clause-within : goal.read_at-requires-clause-within
read_at-requires-clause-within c = (c.args.offset, c.bytes.ensures, c.requires.within)

pub returns : goal.returns
returns c = c.read_at.ensures c.args.offset c.bytes.ensures
