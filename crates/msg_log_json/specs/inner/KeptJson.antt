-- Types, resources and readers told by what is kept of a world: the words of private functions.
use Rattle.std.specs.Prelude.{ℕ, ◌-◌, max, ℤ, List, [], ◌++◌, Option, Some, None, codes}
use Rattle.msg_buffer.specs.Prelude.{Kept, kept_count}
use Rattle.msg_frames.specs.declared.account.Account.{Account}
use Rattle.msg_world.specs.{Prelude.Parts, Prelude.slot, declared.part.Part.TheVariants.OfResource, declared.part.Part.TheVariants.OfType, declared.record.Record.Record}
use Rattle.msg_reading.specs.declared.scenario.Scenario.{Scenario}
use Rattle.msg_json.specs.Prelude.{Text}
use Rattle.msg_log_json.specs.LogJson.{kept_json, listed, numbered, past_json, resource_json, standing_json, use_json}

-- a type by its name, by what is kept of it
abbrev pub type_kept : Text → Option (Kept (Record ℤ)) → Text
type_kept name None = []
type_kept name (Some k) = kept_json name k.oldest (kept_count k)

-- all types
unfoldable pub types_kept : Scenario → Parts ℤ → Text
types_kept s world = numbered (λ x. type_kept x.1.0 (slot (OfType x.0) world)) s.types

-- a resource by its name, by what is kept of it
abbrev pub resource_kept : Text → Option ℤ → Text
resource_kept name None = []
resource_kept name (Some value) = resource_json name value

-- all resources
unfoldable pub resources_kept : Scenario → Parts ℤ → Text
resources_kept s world =
    numbered (λ x. resource_kept x.1.0 (slot (OfResource x.0) world)) s.resources

-- what there is past a place, by what is kept of the type
unfoldable pub past_kept : Option (Kept (Record ℤ)) → ℕ → Text
past_kept None place = []
past_kept (Some k) place =
    past_json (record {
      lost = k.oldest - place;
      unread = kept_count k - max place k.oldest;
    }) (kept_count k)

-- a reader
abbrev pub account_kept : Scenario → Parts ℤ → Account → Text
account_kept s world a =
    use_json s a.system a.of_type ++ standing_json a a.start
    ++ past_kept (slot (OfType a.of_type) world) a.place ++ codes "}"

-- all readers
abbrev pub accounts_kept : Scenario → Parts ℤ → List Account → Text
accounts_kept s world accounts = listed (account_kept s world) accounts

-- what a frame left: the types and the resources
abbrev pub left_kept : Scenario → Parts ℤ → Text
left_kept s world =
    codes ",\"types\":{" ++ types_kept s world ++ codes "}" ++ codes ",\"resources\":{"
    ++ resources_kept s world ++ codes "}"
