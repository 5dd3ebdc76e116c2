-- What a disk shows that fails by a plan.
use Rattle.std.specs.Prelude.{◌≡◌, ℕ, false}
use Rattle.test_faulty_devices.specs.declared.planned.Planned.{Planned}

-- the disk that it hands calls on to
abbrev pub inner_of : {D : Type 0} → Planned D → D
inner_of f = f.inner

-- how many calls it has refused by itself
abbrev pub refused_by : {D : Type 0} → Planned D → ℕ
refused_by f = f.refused

-- it has refused no call
abbrev pub IsFresh : {D : Type 0} → Planned D → Type 0
IsFresh f = (f.refused ≡ 0) × (f.sync_refused ≡ false)
