use Rattle.std.proofs.Common.{inl, inr, refl}
use Rattle.machine_traits.specs.Closing.{alone}
use Rattle.register_program.proofs.laws.database_file_holds_alone.Goals as goal

pub returns : goal.returns
returns g c h other leaves whole may = (
  leaves whole (record { found = inl may; numbered = λ is. absurd (cc (is, c.requires)) }),
  leaves (alone whole) (record {
    found = inr (c.requires, whole, may, refl);
    numbered = λ is. absurd (cc (is, c.requires));
  }),
)
