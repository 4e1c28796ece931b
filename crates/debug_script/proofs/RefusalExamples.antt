-- The example of specs/Refusals.antt.
use Rattle.std.proofs.Common.{◌≡◌, [], ◌∷◌, true, false, codes, inl, inr, arith, refl}
use Rattle.lab_pool.specs.declared.fault.PoolFault.TheVariants.{BadWorkerCount, NoThread}
use Rattle.lab_pool.specs.Pool.{IsBadCount}
use Rattle.debug_language.specs.Reader.{engine_from}
use Rattle.debug_script.specs.Refusals.{MayRefuse, MayEnd, has_pool}

too_many : MayRefuse 33 BadWorkerCount
too_many = record { number = (λ e. inr (omega arith), λ h. refl); not_held = λ e. absurd (cc) }

-- 33 workers are refused for nothing else
not_for_threads : MayRefuse 33 NoThread → ⊥
not_for_threads m = absurd (let e : NoThread ≡ BadWorkerCount = m.number.1 (inr (omega arith)) in cc)

-- and 32 not for their number
not_for_number : MayRefuse 32 BadWorkerCount → ⊥
not_for_number m = by (m.number.0 refl)
  where
    by : IsBadCount 32 → ⊥
    by (inl e) = omega arith
    by (inr l) = omega arith

no_thread_ends : MayEnd NoThread
no_thread_ends = record { not_number = λ e. absurd (cc); not_held = λ e. absurd (cc) }

-- commands don't end for the number of workers
never_for_number : MayEnd BadWorkerCount → ⊥
never_for_number m = m.not_number refl

-- a line `pool` asks for workers, and others don't
pool_asks : has_pool (codes "quit" ∷ codes "pool 2" ∷ []) ≡ true
unfolding engine_from
pool_asks = refl

others_do_not : has_pool (codes "quit" ∷ codes "step 2" ∷ codes "pool 33" ∷ []) ≡ false
unfolding engine_from
others_do_not = refl
