use Rattle.std.proofs.Common.{◌≡◌, ◌-◌, Some, length, subst, ap, ◌∙◌, arith}
use Rattle.x_branches.specs.Refusals.{most_steps}
use Rattle.x_branches.specs.Runner.{IsRunner, unposted_steps}
use Rattle.debug_acts.specs.Acts.{room_acts}
use Rattle.debug_acts.proofs.WorkLemmas.{work}
use Rattle.debug_acts.proofs.LeadLemmas.{none_part, room_made, room_refused}
use Rattle.debug_acts.proofs.posts.make_room.Goals as goal

pub returns-in_default-clause-acts : goal.returns-in_default-clause-acts
returns-in_default-clause-acts g c = (
  tt,
  none_part c.args.book.now c.post_held.new.book (Some c.args.worker.now) (Some c.post_held.new.self) (room_acts c.args.worker.now)
      (length (room_acts c.args.worker.now) - 1)
      (room_refused (work c.args.book.now c.args.worker.now)
      (record { tiling = c.is_sound.ensures.tiling; holds = c.requires.holds; runner = subst IsRunner c.runner.ensures c.is_sound-2.ensures.runner })
      c.post_held.new.book c.in_default.field-0 c.in_default.ensures.refused)
      (ap Some c.in_default.ensures.unchanged),
)

pub returns-clause-acts : goal.returns-clause-acts
returns-clause-acts g c =
    let full : unposted_steps c.args.worker.now.runner ≡ most_steps =
    omega (arith, c.unposted.type_inv, c.unposted.ensures ∙ ap unposted_steps c.runner-2.ensures) in (
      room_made (work c.args.book.now c.args.worker.now)
          (record { tiling = c.is_sound.ensures.tiling; holds = c.requires.holds; runner = subst IsRunner c.runner.ensures c.is_sound-2.ensures.runner })
          full c.post_held.new.book c.post_held.new.self c.in-Ok.field-0 c.in-Ok.ensures.made c.in-Ok.ensures.marked,
      tt,
    )
