-- What the outline of a set-up file says of it.
use Rattle.std.specs.Prelude.{◌≡◌, ℕ, ◌<◌, List, length, take, Option, Some, None}
use Rattle.protocol.specs.declared.policy.Policy.{Policy}
use Rattle.setup_file.specs.declared.outline.FewPolicies.{FewPolicies}
use Rattle.setup_file.specs.declared.outline.Outline.{Outline}
use Rattle.setup_file.specs.declared.outline.StoreOutline.{StoreOutline}
use Rattle.setup_file.specs.declared.setup.Make.{Make}
use Rattle.setup_file.specs.Items.{StoreContent, store_made}
use Rattle.setup_file.specs.SetupFiles.{SetupContent}

-- The list that is kept, by what a keeping holds; where nothing is kept, the list is longer than the limit.
abbrev pub IsFew : {F A : Type 0} → (F → List A) → ℕ → Option F → List A → Type 0
IsFew items limit (Some few) list = items few ≡ list
IsFew items limit None list = limit < length list

abbrev pub few_policies : FewPolicies → List Policy
few_policies few = take few.count few.places

-- The make, and the numbers of a store that are few.
pub record OutlinesStore (outline : StoreOutline) (store : StoreContent) : Type 0 where
  pub make : outline.make ≡ store.make
  pub numbers : IsFew (λ few. few.items) 256 outline.numbers store.numbers

-- The order, the stores, and the policies that are few.
pub record Outlines (outline : Outline) (file : SetupContent) : Type 0 where
  pub order : outline.order ≡ file.order
  pub cells : OutlinesStore outline.cells file.cells
  pub rights : OutlinesStore outline.rights file.rights
  pub policies : IsFew few_policies 64 outline.policies file.policies

-- The outline of the store that the words make, if they make one.
abbrev pub OutlinesMade : Make → List (List ℕ) → Option StoreOutline → Type 0
OutlinesMade make words (Some outline) = (store : StoreContent) × (store_made make words ≡ Some store) × OutlinesStore outline store
OutlinesMade make words None = store_made make words ≡ None
