-- Facts that were proved together, as the clauses of a contract that has them by these names.
module _ {A B : Type 0} (h : A × B) where
  pub value_buffer : record { value : A; buffer_after : B }
  value_buffer = record { value = h.0; buffer_after = h.1 }

  pub value_output : record { value : A; output_after : B }
  value_output = record { value = h.0; output_after = h.1 }

  pub value_store : record { value : A; store_after : B }
  value_store = record { value = h.0; store_after = h.1 }

  pub value_room : record { value : A; room_after : B }
  value_room = record { value = h.0; room_after = h.1 }

  pub value_gather : record { value : A; gather_after : B }
  value_gather = record { value = h.0; gather_after = h.1 }

pub value_output_text : {A B C D : Type 0} → A × (B × (C × D))
    → record { value : A; output_after : B; text_after : C; lengths_unchanged : D }
value_output_text h = record { value = h.0; output_after = h.1.0; text_after = h.1.1.0; lengths_unchanged = h.1.1.1 }
