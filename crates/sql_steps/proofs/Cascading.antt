-- What a DELETE does where one other table refers to the rows with ON DELETE CASCADE, and none to its rows.
use Rattle.std.proofs.Common.{◌≡◌, inl, inr, ◌≢◌, ℕ, zero, suc, ℤ, List, [], ◌∷◌, ◌++◌, length, Bool, true, false, cond}
use Rattle.std.proofs.Common.{Ok, refl, sym, ap, subst, arith, length-append}
use Rattle.std.specs.List.{AllByRecursion, list_any}
use Rattle.sqlite.specs.Edit.{edit_of, taken_by, without_all, Applies}
use Rattle.sqlite.specs.{Order.Row, Rowids.TheVariants.Given, Schema.Schema, Table.Table, Tree.Trees}
use Rattle.sqlite_rules.proofs.ListLemmas.{all_from, some_from, some_has}
use Rattle.sqlite_rules.specs.Action.{Work, works, pairs, loses, is_child_of, Writes, Leads, Acts, ActsOn, AreChildren}
use Rattle.sqlite_rules.specs.Action.{action_edit}
use Rattle.sqlite_rules.specs.declared.action.Deed.TheVariants.{Delete}
use Rattle.sqlite_schema.specs.{declared.schema.Keys.TheVariants.Enforced, declared.schema.Reference.Reference}
use Rattle.sqlite_value.specs.declared.keys.Order.{Order}

single : {A : Type 0} (below : List A) (w x : A) → below ++ w ∷ [] ≡ x ∷ [] → (below ≡ []) × (w ≡ x)
single [] w x e = (refl, cc)
single (b ∷ bs) w x e = absurd (omega (arith, ap length e, length-append bs (w ∷ [])))

module _ (schema : Schema) (parent child : Table) (ref : Reference) (places : List ℕ) (order : Order) where
  -- the rows of the child that refer to these, to be deleted
  abbrev pub orphans : List Row → Work
  orphans olds = record { depth = 0; child = child; ref = ref; places = places; order = order; deed = Delete; moves = pairs olds [] }

  abbrev pub some_lose : List Row → Bool
  some_lose olds = list_any (loses order places) (pairs olds [])

  abbrev pub is_orphan : List Row → Row → Bool
  is_orphan olds row = list_any (is_child_of (orphans olds) row) (pairs olds [])

  -- the orphans go, and no other table changes
  pub record Drops (olds : List Row) (next after : Trees) : Type 0 where
    pub ids : List ℤ
    pub are : AreChildren next (orphans olds) ids
    pub rows : after child.tree ≡ without_all (next child.tree) ids
    pub others : AllByRecursion (λ t. t.tree ≢ child.tree → after t.tree ≡ next t.tree) schema.tables

  module _ (cascade : (olds : List Row) → works schema Enforced 0 parent.tree olds []
      ≡ cond (some_lose olds) (orphans olds ∷ []) [])
      (idle : (olds : List Row) → works schema Enforced 1 child.tree olds [] ≡ []) where
    empty_leads : (n : ℕ) (db after : Trees) → Leads schema Enforced n db [] (Ok after) → after ≡ db
    empty_leads zero db after h = let e = h.1 in cc
    empty_leads (suc n) db after h = absurd (omega (arith, ap length h.2, length-append h.0 (h.1 ∷ [])))

    -- nothing is done where there is no orphan
    no_drop : (olds : List Row) (next after : Trees) → AreChildren next (orphans olds) [] → after ≡ next
        → Drops olds next after
    no_drop olds next after none same = search (arith, all_from)

    -- where no row loses its key there is none
    no_orphan : (olds : List Row) (next : Trees) → some_lose olds ≡ false → AreChildren next (orphans olds) []
    no_orphan olds next none = search (arith, some_has, some_from)

    acts : (n : ℕ) (next after : Trees) (olds : List Row) (ids : List ℤ) → AreChildren next (orphans olds) ids
        → ActsOn schema Enforced (Leads schema Enforced n) next (orphans olds) [] (Ok after) ids → Drops olds next after
    acts n next after olds [] are h = no_drop olds next after are (empty_leads n next after h)
    acts n next after olds (id ∷ ids) are (inl refused) = absurd (let e = refused.2 in cc)
    acts n next after olds (id ∷ ids) are (inr (inl big)) = absurd (let e = big.3 in cc)
    acts n next after olds (id ∷ ids) are (inr (inr went)) =
        let e = action_edit next (orphans olds) (id ∷ ids) in
        let last : after ≡ went.0 = search (arith, empty_leads) in
        let applies = subst (Applies schema Enforced next e) (sym last) went.1 in
        record { ids = id ∷ ids; are = are; rows = applies.rows; others = applies.tables }

    settles : (b : Bool) (n : ℕ) (next after : Trees) (olds : List Row) → some_lose olds ≡ b
        → Leads schema Enforced n next (cond b (orphans olds ∷ []) []) (Ok after) → Drops olds next after
    settles false n next after olds is h = no_drop olds next after (no_orphan olds next is) (empty_leads n next after h)
    settles true zero next after olds is h = absurd (let e = h.0 in cc)
    settles true (suc n) next after olds is h =
        let one = single h.0 h.1 (orphans olds) (sym h.2) in
        let act : Acts schema Enforced (Leads schema Enforced n) next (orphans olds) [] (Ok after) =
        subst (λ w. Acts schema Enforced (Leads schema Enforced n) next w [] (Ok after)) one.1
        (subst (λ b. Acts schema Enforced (Leads schema Enforced n) next h.1 b (Ok after)) one.0 h.3) in
        acts n next after olds act.0 act.1 act.2

    -- a DELETE takes the rows out, and then their orphans, and nothing else
    pub drops_after : (db after : Trees) (gone : List ℤ)
        → Writes schema Enforced db (edit_of db parent gone Given 0 []) (Ok after)
        → (next : Trees) × Applies schema Enforced db (edit_of db parent gone Given 0 []) next
        × Drops (taken_by db (edit_of db parent gone Given 0 [])) next after
    drops_after db after gone it = search (arith, settles)
