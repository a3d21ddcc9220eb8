-- What stands once, and what stands at the end.
use Rattle.std.proofs.Common.{◌≡◌, true, false, Option, Some, None, Result, Ok, Err, OnOk, IfErr, IsSome, List, sym, refl, ap, ◌∙◌, subst}
use Rattle.std.specs.Option.{is_some}
use Rattle.setup_file.specs.declared.error.Problem.{Problem}
use Rattle.setup_file.specs.declared.error.Problem.TheVariants.{Repeated}
use Rattle.protocol.specs.declared.policy.Policy.{Policy}
use Rattle.setup_file.specs.declared.outline.FewPolicies.{FewPolicies}
use Rattle.setup_file.specs.declared.outline.StoreOutline.{StoreOutline}
use Rattle.setup_file.specs.declared.setup.OrderLine.{OrderLine}
use Rattle.setup_file.specs.Outlines.{IsFew, few_policies, Outlines}
use Rattle.setup_file.specs.declared.seen.Seen.{Seen}
use Rattle.setup_file.specs.Checks.{Stands, StoreStands, ChecksLine}
use Rattle.setup_file.specs.Items.{StoreContent}
use Rattle.setup_file.specs.SetupFiles.{SetupContent, DraftContent, once, with_all, finished}

pub stand_alike : (place : Option StoreOutline) (store : Option StoreContent) → StoreStands place store → is_some place ≡ is_some store
stand_alike (Some _) (Some _) h = refl
stand_alike None None h = refl
stand_alike (Some _) None h = absurd h
stand_alike None (Some _) h = absurd h

none_taken : {B : Type 0} {X : Type 0} (place : Option B) → is_some place ≡ false → IsSome place → X
none_taken None e h = absurd cc
none_taken (Some _) e h = let no : true ≡ false = e in absurd cc

module _ {A B : Type 0} (after : DraftContent) (seen : Seen) (old new : Option B) (item : B) where
  pub once_checked : (o : Option A) (r : Result (Unit {0}) Problem) → is_some old ≡ is_some o
      → OnOk r ((old ≡ None) × (new ≡ Some item))
      → IfErr r (λ problem. IsSome old × (new ≡ old) × (problem ≡ Repeated))
      → (new ≡ Some item → Stands seen after) → ChecksLine (once o after) seen r
  once_checked None (Ok _) e free taken stands = (after, refl, stands free.1)
  once_checked (Some x) (Ok _) e free taken stands =
      let no : false ≡ true = sym (ap is_some free.0) ∙ e in absurd cc
  once_checked None (Err problem) e free taken stands = none_taken old e taken.0
  once_checked (Some x) (Err problem) e free taken stands = ap Err (sym taken.2)

module _ (order : OrderLine) (cells rights : StoreOutline) (few : Option FewPolicies) where
  stands_all : (o : Option OrderLine) (c r : Option StoreContent) (policies : List Policy)
      → Some order ≡ o → StoreStands (Some cells) c → StoreStands (Some rights) r → IsFew few_policies 64 few policies
      → (file : SetupContent) × (with_all o c r policies ≡ Ok file)
      × Outlines (record { order = order; cells = cells; rights = rights; policies = few }) file
  stands_all (Some o) (Some c) (Some r) policies ho hc hr hp =
      (record { order = o; cells = c; rights = r; policies = policies }, refl, record { order = cc; cells = hc; rights = hr; policies = hp })
  stands_all None _ _ policies ho hc hr hp = absurd cc
  stands_all (Some _) None _ policies ho hc hr hp = absurd hc
  stands_all (Some _) (Some _) None policies ho hc hr hp = absurd hr

  pub all_stand : (seen : Seen) (draft : DraftContent) → Stands seen draft
      → seen.order ≡ Some order → seen.cells ≡ Some cells → seen.rights ≡ Some rights → seen.policies ≡ few
      → (file : SetupContent) × (finished draft ≡ Ok file)
      × Outlines (record { order = order; cells = cells; rights = rights; policies = few }) file
  all_stand seen draft s eo ec er ep =
      stands_all draft.order draft.cells draft.rights draft.policies (sym eo ∙ s.order)
      (subst (λ o. StoreStands o draft.cells) ec s.cells) (subst (λ o. StoreStands o draft.rights) er s.rights)
      (subst (λ o. IsFew few_policies 64 o draft.policies) ep s.policies)
