use Rattle.std.proofs.Common.{◌≡◌, subst, sym}
use Rattle.std.proofs.Math.Logic.{∥∥₁_map}
use Rattle.sqlite_trees.specs.declared.store.Store.{Ghosts}
use Rattle.sqlite.specs.{Files.HoldsDatabase, Held.Held, Held.state, Recovery.Image, State.HasCleanDisk, Tree.Trees}
use Rattle.register_desk.specs.declared.desk.Desk.{Desk}
use Rattle.register_desk.specs.{Desk.connection_of, Lives.LeavesAfter, OpenRefusal.LeavesNew, Register.LeavesOneOf}
use Rattle.register_desk.proofs.Found.{leaves_in_files, life_in_files}
use Rattle.register_program.specs.{Within.LeavesAsDesk, Life.ClosesAs}
use Rattle.register_program.proofs.register_file.close_desk.Goals as goal

-- In files that hold what a closed store may come back as, what is found is what a stop leaves of the desk.
as_desk : {S : Type 0} (g : Ghosts S) (desk : Desk S g) (connection : Held S) (store : S)
    → connection_of desk ≡ connection → ClosesAs g connection store → (may : Image → Type 0)
    → ((left : Image) → may left → ∥ ((db : Trees) × (g.recovers store db) × HoldsDatabase left db) ∥₁)
    → LeavesAsDesk g desk may
as_desk g desk connection store same closes may opens = record {
  one_of = λ h other leaves left found.
      leaves_in_files g h other connection (subst (λ (k : Held _). LeavesOneOf h other (state g k)) same leaves) store
      closes.outcomes left (opens left found);
  lives = λ h items end replies leaves left found.
      life_in_files g h items end replies connection
      (subst (λ (k : Held _). LeavesAfter h items end replies (state g k)) same leaves) store
      closes.outcomes left (opens left found);
  made = λ old leaves left found. ∥∥₁_map (opens left found) (λ one.
      let new = subst (λ (k : Held _). LeavesNew (state g old) (state g k)) same leaves in
      (one.0, one.2, new one.0 (closes.outcomes one.0 one.1)));
}

pub returns-clause-clean : goal.returns-clause-clean
returns-clause-clean g c clean =
    subst (λ (k : Held _). HasCleanDisk (state g.F.Opened.Store k)) c.close-connection.ensures.same
    (c.close_connection_into_store.ensures.clean (c.close.ensures.clean clean))

pub returns-clause-closes : goal.returns-clause-closes
returns-clause-closes g c clean =
    let closes = c.close_connection_into_store.ensures in
    let store = c.close_connection_into_store.result in
    let sound = c.close.ensures.clean clean in
    let same = sym c.close-connection.ensures.same in
    let left_by = as_desk g.F.Opened.Store c.args.desk c.close-connection.result.0 store same closes in
    record {
      before = store;
      gives = subst (λ (k : Held _). ClosesAs g.F.Opened.Store k store) c.close-connection.ensures.same closes;
      closes = c.close.ensures;
      up_to = left_by _ (g.met.F.Files.opens_again store (closes.numbered sound) (closes.sound sound));
      from = left_by _ (c.close.ensures.leaves clean (closes.numbered sound) (closes.sound sound));
    }
