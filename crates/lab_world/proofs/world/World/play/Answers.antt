use Rattle.std.proofs.Common.{◌≡◌, length, sym, subst, ◌∙◌, ◌+◌, inl, inr, arith}
use Rattle.std.proofs.lemmas.Bool.{cases_lt}
use Rattle.lab_world.proofs.WorldLemmas.{Plays, begins, plays_more, event_within, all_world, all_replies}
use Rattle.lab_world.proofs.world.World.play.Goals as goal

pub playing-init : goal.playing-init
playing-init g c = record {
  plays = begins c.args.self.now c.args.events.now c.in-Ok.replies.items c.in-Ok.ensures.items;
  count = omega (arith, c.in-Ok.ensures.len);
  room = omega (arith, c.in-Ok.ensures.capacity);
}

pub happen-requires : goal.happen-requires
happen-requires g c =
    event_within c.args.self.now c.args.events.now c.playing.event-index c.event-item.result c.playing.self c.playing.replies.items
    c.requires c.playing.invariant.plays c.playing-test.true c.event-item.is

pub push_reserved-requires : goal.push_reserved-requires
push_reserved-requires g c = omega (arith, c.playing.invariant.count, c.playing.invariant.room, c.playing-test.true)

pub returns-in-Err-clause-first_replies : goal.returns-in-Err-clause-first_replies
returns-in-Err-clause-first_replies g c = rw c.playing.invariant.count c.playing.invariant.plays.replies

pub returns-in-Err-clause-first_world : goal.returns-in-Err-clause-first_world
returns-in-Err-clause-first_world g c = rw c.playing.invariant.count (c.in-Err.ensures.unchanged ∙ c.playing.invariant.plays.world)

pub returns-in_default-clause-early : goal.returns-in_default-clause-early
returns-in_default-clause-early g c = elim (cases_lt 0 (length c.args.events.now)) [
  | inl some ↦ omega (arith, some, c.new.ensures.len)
  | inr none ↦
      let no : length c.args.events.now ≡ 0 = omega (arith, none) in
      let made = c.in_default.ensures.succeeds no in absurd (cc)
]

pub returns-in-Err-clause-early : goal.returns-in-Err-clause-early
returns-in-Err-clause-early g c = omega (arith, c.playing.invariant.count, c.playing-test.true)

pub playing-preserved : goal.playing-preserved
playing-preserved g c = record {
  plays =
      subst (Plays c.args.self.now c.args.events.now (c.playing.event-index + 1) c.happen.new.self) (sym c.push_reserved.ensures.items)
      (plays_more c.args.self.now c.args.events.now c.playing.event-index c.event-item.result c.playing.self c.happen.new.self
      c.playing.replies.items c.in-Ok-happen.reply c.playing.invariant.plays c.playing-test.true
      c.event-item.is c.in-Ok-happen.ensures.reply c.in-Ok-happen.ensures.world);
  count = omega (arith, c.playing.invariant.count, c.push_reserved.ensures.len);
  room = omega (arith, c.playing.invariant.room, c.push_reserved.ensures.capacity);
}

pub returns-clause-replies : goal.returns-clause-replies
returns-clause-replies g c = all_replies c.args.self.now c.args.events.now c.playing.event-index c.playing.self c.playing.replies.items
    c.playing.invariant.plays c.playing-test.false

pub returns-clause-world : goal.returns-clause-world
returns-clause-world g c = all_world c.args.self.now c.args.events.now c.playing.event-index c.playing.self c.playing.replies.items
    c.playing.invariant.plays c.playing-test.false
