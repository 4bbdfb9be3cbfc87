-- The laws of going round an element stand beside its definition.
pub use Rattle.protocol.proofs.Rotation.{around_first, around_second, around-third, around_ext, around_next, rotate_at, rotate-rotate, rotate-mod}
